-- The result of a constructor as packed is the packed family at the tag of the member that the written one builds.
use Rattle.std.proofs.Common.{◌≡◌, ℕ, zero, suc, ◌+◌, true, false, List, [], ◌∷◌, map, length, Option, Some, None, slice_get, All, refl, ap, sym, ◌∙◌, subst, arith}
use Rattle.std.proofs.lemmas.Bool.{false≢true}
use Rattle.std.proofs.lemmas.List.{length-map}
use Rattle.std.proofs.lemmas.List.Elements.{All-head, All-tail}
use Rattle.std.specs.Option.{option_map_or}
use Rattle.theory.specs.Families.{mentions}
use Rattle.theory.specs.Terms.{Term}
use Rattle.theory.specs.Terms.Term.{Var, Sort, Pi, Lam, App, Let, Const, Fam, Con, Elim, AxiomK}
use Rattle.core_terms.specs.Levels.{run}
use Rattle.core_sig.specs.Raw.{RawConstructor}
use Rattle.mutual_pack.specs.declared.members.Members.{Members}
use Rattle.mutual_pack.specs.MutualFamilies.{Packed, all_constructors}
use Rattle.mutual_pack.specs.Members.{whole_member}
use Rattle.mutual_pack.specs.Packing.{members_of, packed_constructor, packed_end, packed_type, tagged}
use Rattle.mutual_pack.specs.TagLaws.{ConstructorsAreAtTheirTags, IsAtItsTag, argument_count, result_of}
use Rattle.mutual_pack.proofs.PackedTypes.{neither, packed-as}
use Rattle.mutual_pack.proofs.Tags.{head_of-applied, mentions-head}

-- ---- ends

end-result : (g : Members) (under n : ℕ) (t : Term) → n ≡ under + 0 → result_of t ≡ t → result_of (packed_end g under t) ≡ packed_end g n (result_of t)
end-result g under n t count own =
    let same : under ≡ n = omega (arith, count) in
    subst (λ m. result_of (packed_end g under t) ≡ packed_end g m (result_of t)) same
    (subst (λ r. result_of (packed_end g under t) ≡ packed_end g under r) (sym own) (by (whole_member g under t)))
  where
    by : (o : Option ℕ) → result_of (option_map_or (λ k. tagged g k (g.params + under)) o t) ≡ option_map_or (λ k. tagged g k (g.params + under)) o t
    by (Some k) = refl
    by None = own

end-count : (g : Members) (under : ℕ) (t : Term) → argument_count t ≡ 0 → argument_count (packed_end g under t) ≡ argument_count t
end-count g under t none = by (whole_member g under t)
  where
    by : (o : Option ℕ) → argument_count (option_map_or (λ k. tagged g k (g.params + under)) o t) ≡ argument_count t
    by (Some k) = sym none
    by None = refl

-- ---- types

type-count : (g : Members) (under : ℕ) (t : Term) → argument_count (packed_type g under t) ≡ argument_count t
type-count g under (Pi a b) = ap (λ n. n + 1) (type-count g (under + 1) b)
type-count g under (Var n) = end-count g under (Var n) refl
type-count g under (Sort i) = end-count g under (Sort i) refl
type-count g under (Lam a b) = end-count g under (Lam a b) refl
type-count g under (App f a) = end-count g under (App f a) refl
type-count g under (Let a t b) = end-count g under (Let a t b) refl
type-count g under (Const c) = end-count g under (Const c) refl
type-count g under (Fam f) = end-count g under (Fam f) refl
type-count g under (Con f c) = end-count g under (Con f c) refl
type-count g under (Elim f m) = end-count g under (Elim f m) refl
type-count g under (AxiomK i m) = end-count g under (AxiomK i m) refl

type-result : (g : Members) (under n : ℕ) (t : Term) → n ≡ under + argument_count t → result_of (packed_type g under t) ≡ packed_end g n (result_of t)
type-result g under n (Pi a b) count = type-result g (under + 1) n b (omega (arith, count))
type-result g under n (Var v) count = end-result g under n (Var v) count refl
type-result g under n (Sort i) count = end-result g under n (Sort i) count refl
type-result g under n (Lam a b) count = end-result g under n (Lam a b) count refl
type-result g under n (App f a) count = end-result g under n (App f a) count refl
type-result g under n (Let a t b) count = end-result g under n (Let a t b) count refl
type-result g under n (Const c) count = end-result g under n (Const c) count refl
type-result g under n (Fam f) count = end-result g under n (Fam f) count refl
type-result g under n (Con f c) count = end-result g under n (Con f c) count refl
type-result g under n (Elim f m) count = end-result g under n (Elim f m) count refl
type-result g under n (AxiomK i m) count = end-result g under n (AxiomK i m) count refl

lacks-result : (n : ℕ) (t : Term) → mentions n t ≡ false → mentions n (result_of t) ≡ false
lacks-result n (Pi a b) lacks = lacks-result n b (neither (mentions n a) (mentions n b) lacks).1
lacks-result n (Var v) lacks = lacks
lacks-result n (Sort i) lacks = lacks
lacks-result n (Lam a b) lacks = lacks
lacks-result n (App f a) lacks = lacks
lacks-result n (Let a t b) lacks = lacks
lacks-result n (Const c) lacks = lacks
lacks-result n (Fam f) lacks = lacks
lacks-result n (Con f c) lacks = lacks
lacks-result n (Elim f m) lacks = lacks
lacks-result n (AxiomK i m) lacks = lacks

-- ---- tags

tagged-mentions : (g : Members) (k depth : ℕ) → mentions (g.first + 1) (tagged g k depth) ≡ true
tagged-mentions g k depth = mentions-head (g.first + 1) (tagged g k depth) (head_of-applied (Fam (g.first + 1)) (run depth 0 g.params))

tagged-same : (g : Members) (j k depth : ℕ) → tagged g j depth ≡ tagged g k depth → j ≡ k
tagged-same g j k depth e = let same : Con g.first j ≡ Con g.first k = cc in cc

end-there : (g : Members) (k under : ℕ) (t : Term) → whole_member g under t ≡ Some k → packed_end g under t ≡ tagged g k (g.params + under)
end-there g k under t builds = ap (λ o. option_map_or (λ k. tagged g k (g.params + under)) o t) builds

end-only : (g : Members) (k under : ℕ) (t : Term) → mentions (g.first + 1) t ≡ false → packed_end g under t ≡ tagged g k (g.params + under) → whole_member g under t ≡ Some k
end-only g k under t lacks e = by (whole_member g under t) refl e
  where
    by : (o : Option ℕ) → whole_member g under t ≡ o → option_map_or (λ k. tagged g k (g.params + under)) o t ≡ tagged g k (g.params + under) → whole_member g under t ≡ Some k
    by (Some j) found same = found ∙ ap Some (tagged-same g j k (g.params + under) same)
    by None found same =
        absurd (false≢true (sym lacks ∙ (ap (mentions (g.first + 1)) same ∙ tagged-mentions g k (g.params + under))))

-- ---- constructors

constructor-at : (g : Members) (c : RawConstructor) → mentions (g.first + 1) c.type ≡ false → IsAtItsTag g c (packed_constructor g c)
constructor-at g c lacks =
    let n = argument_count c.type in
    let count = type-count g 0 c.type in
    let result : result_of (packed_type g 0 c.type) ≡ packed_end g n (result_of c.type) = type-result g 0 n c.type (omega arith) in
    record {
      name = refl;
      arguments = count;
      there = λ k builds.
          subst (λ m. result_of (packed_type g 0 c.type) ≡ tagged g k (g.params + m)) (sym count) (result ∙ end-there g k n (result_of c.type) builds);
      only = λ k builds.
          end-only g k n (result_of c.type) (lacks-result (g.first + 1) c.type lacks)
          (sym result ∙ subst (λ m. result_of (packed_type g 0 c.type) ≡ tagged g k (g.params + m)) count builds);
    }

at-number : (g : Members) (cs : List RawConstructor) (n : ℕ) (written made : RawConstructor) → All (λ c. mentions (g.first + 1) c.type ≡ false) cs → slice_get cs n ≡ Some written
    → slice_get (map (packed_constructor g) cs) n ≡ Some made → IsAtItsTag g written made
at-number g [] n written made lacks there packed = absurd cc
at-number g (c ∷ cs) zero written made lacks there packed =
    let first : c ≡ written = cc in
    let second : packed_constructor g c ≡ made = cc in
    subst (λ m. IsAtItsTag g written m) second
    (subst (λ w. IsAtItsTag g w (packed_constructor g c)) first (constructor-at g c (All-head (λ (c : RawConstructor). mentions (g.first + 1) c.type ≡ false) c cs lacks)))
at-number g (c ∷ cs) (suc n) written made lacks there packed =
    at-number g cs n written made (All-tail (λ (c : RawConstructor). mentions (g.first + 1) c.type ≡ false) c cs lacks) there packed

pub constructors-at-their-tags : ConstructorsAreAtTheirTags
constructors-at-their-tags base d packed e lacks =
    let g = members_of base d in
    let is = packed-as base d packed e in
    subst
    (λ (p : Packed).
    (length p.family.constructors ≡ length (all_constructors d.members))
    × ((n : ℕ) (written made : RawConstructor) → slice_get (all_constructors d.members) n ≡ Some written → slice_get p.family.constructors n ≡ Some made → IsAtItsTag g written made))
    is.same
    (length-map (all_constructors d.members) (packed_constructor g), λ n written made there packed. at-number g (all_constructors d.members) n written made lacks there packed)
