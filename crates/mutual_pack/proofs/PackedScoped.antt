-- The types of constructors of the packed family are scoped.
use Rattle.std.proofs.Common.{◌≡◌, ◌⊎◌, inl, inr, ℕ, zero, suc, ◌+◌, ◌-◌, ◌<◌, ◌≤◌, nat_lt, nat_le, Bool, true, false, ◌&&◌, ◌||◌, not, cond, List, [], ◌∷◌, ◌++◌, map, length, Option, Some, None, is_some, slice_get, All, refl, ap, ap₂, sym, ◌∙◌, subst, arith}
use Rattle.std.proofs.lemmas.Bool.{false≢true}
use Rattle.std.proofs.lemmas.Bool.Decides.{nat_tests}
use Rattle.std.proofs.lemmas.List.Elements.{All-head, All-tail, All-nil, All-cons}
use Rattle.std.proofs.lemmas.Option.{slice_get_within}
use Rattle.std.specs.Option.{option_map_or}
use Rattle.theory.specs.Terms.{Term, free_of}
use Rattle.theory.specs.Terms.Term.{Var, Sort, Pi, Lam, App, Let, Const, Fam, Con, Elim, AxiomK}
use Rattle.theory.specs.Telescopes.{applied}
use Rattle.theory.specs.Signatures.{Signature, Entry, Definition, FamilyOf, IsPrefix}
use Rattle.theory.specs.SignatureScopes.{HasEntries, IsConstantNumber, IsConstructorNumber, IsFamilyNumber, IsScoped}
use Rattle.theory.proofs.Lists.{slice_get-append, slice_get-append_right, slice_get-longer, some_is}
use Rattle.core_terms.specs.Levels.{variable, run}
use Rattle.core_sig.specs.Raw.{RawConstructor}
use Rattle.mutual_pack.specs.declared.members.Members.{Members}
use Rattle.mutual_pack.specs.Members.{is_member, mentions_member, whole_member, is_positive_end, is_positive_argument, offending_argument}
use Rattle.mutual_pack.specs.MutualFamilies.{all_constructors}
use Rattle.mutual_pack.specs.PackedScopes.{HasPackedFamilies, PackedIsScoped}
use Rattle.mutual_pack.specs.Packing.{tagged, packed_end, packed_argument, packed_type, packed_constructor, members_of}
use Rattle.mutual_pack.proofs.PackedTypes.{both, untrue, neither, result-positive, IsFitting, AreFitting, packed-as}
use Rattle.mutual_pack.proofs.Unfolding.{member-form, below-count}

-- ---- a signature with a constant for each member

abbrev placeholder : Entry
placeholder = Definition [] (Sort 0) (Sort 0)

abbrev placeholders : ℕ → List Entry
placeholders zero = []
placeholders (suc n) = placeholder ∷ placeholders n

length-placeholders : (n : ℕ) → length (placeholders n) ≡ n
length-placeholders zero = refl
length-placeholders (suc n) = ap suc (length-placeholders n)

placeholder-there : (n k : ℕ) → k < n → slice_get (placeholders n) k ≡ Some placeholder
placeholder-there zero k lt = absurd (omega arith)
placeholder-there (suc n) zero lt = refl
placeholder-there (suc n) (suc k) lt = placeholder-there n k (omega arith)

abbrev with_placeholders : Signature → ℕ → Signature
with_placeholders S n = record { entries = S.entries ++ placeholders n; has_k = S.has_k }

-- an entry of it is one of S, or is one of the constants
entry-from : (S : Signature) (n c : ℕ) (e : Entry) → slice_get (S.entries ++ placeholders n) c ≡ Some e → (slice_get S.entries c ≡ Some e) ⊎ ((length S.entries ≤ c) × (c < length S.entries + n) × (placeholder ≡ e))
entry-from S n c e at = by (nat_lt c (length S.entries)) refl
  where
    by : (b : Bool) → nat_lt c (length S.entries) ≡ b → (slice_get S.entries c ≡ Some e) ⊎ ((length S.entries ≤ c) × (c < length S.entries + n) × (placeholder ≡ e))
    by true test =
        let low : c < length S.entries = grind (arith, nat_tests) in
        inl (sym (slice_get-append S.entries (placeholders n) c low) ∙ at)
    by false test =
        let k = c - length S.entries in
        let high : length S.entries ≤ c = grind (arith, nat_tests) in
        let place : length S.entries + k ≡ c = omega arith in
        let here : slice_get (placeholders n) k ≡ Some e = sym (slice_get-append_right S.entries (placeholders n) k) ∙ (ap (slice_get (S.entries ++ placeholders n)) place ∙ at) in
        let within = slice_get_within (placeholders n) k e here in
        let count = length-placeholders n in
        let low : k < n = omega arith in
        inr (high, omega arith, some_is (sym (placeholder-there n k low) ∙ here))

-- ---- numbers

module _ (S T : Signature) (g : Members) (first : g.first ≡ length S.entries) (longer : IsPrefix S T) (has : HasPackedFamilies T g.first g.count) where
  abbrev U : Signature
  U = with_placeholders S g.count

  in-longer : (c : ℕ) (e : Entry) → slice_get S.entries c ≡ Some e → slice_get T.entries c ≡ Some e
  in-longer c e at = ap (λ es. slice_get es c) longer.entries ∙ slice_get-longer S.entries longer.more c e at

  family-kept : (n : ℕ) → IsFamilyNumber U n → IsFamilyNumber T n
  family-kept n (f, at) = elim (entry-from S g.count n (FamilyOf f) at) [
    | inl there ↦ (f, in-longer n (FamilyOf f) there)
    | inr (high, low, is) ↦ absurd cc
  ]

  constructor-kept : (n c : ℕ) → IsConstructorNumber U n c → IsConstructorNumber T n c
  constructor-kept n c (f, at, few) = elim (entry-from S g.count n (FamilyOf f) at) [
    | inl there ↦ (f, in-longer n (FamilyOf f) there, few)
    | inr (high, low, is) ↦ absurd cc
  ]

  member-is : (c : ℕ) → length S.entries ≤ c → c < length S.entries + g.count → is_member g c ≡ true
  member-is c high low =
      let a : nat_le g.first c ≡ true = grind (arith, nat_tests) in
      let b : nat_lt c (g.first + g.count) ≡ true = grind (arith, nat_tests) in
      ap₂ (λ x y. x && y) a b

  constant-kept : (c : ℕ) → IsConstantNumber U c → is_member g c ≡ false → IsConstantNumber T c
  constant-kept c (name, type, body, at) other = elim (entry-from S g.count c (Definition name type body) at) [
    | inl there ↦ (name, type, body, in-longer c (Definition name type body) there)
    | inr (high, low, is) ↦ absurd (false≢true (sym other ∙ member-is c high low))
  ]

  -- ---- terms

  entries-kept : (t : Term) → HasEntries U t → mentions_member g t ≡ false → HasEntries T t
  entries-kept (Var n) h lacks = tt
  entries-kept (Sort i) h lacks = tt
  entries-kept (Pi a b) h lacks = let (x, y) = neither (mentions_member g a) (mentions_member g b) lacks in (entries-kept a h.0 x, entries-kept b h.1 y)
  entries-kept (Lam a b) h lacks = let (x, y) = neither (mentions_member g a) (mentions_member g b) lacks in (entries-kept a h.0 x, entries-kept b h.1 y)
  entries-kept (App f a) h lacks = let (x, y) = neither (mentions_member g f) (mentions_member g a) lacks in (entries-kept f h.0 x, entries-kept a h.1 y)
  entries-kept (Let a t b) h lacks =
      let (x, rest) = neither (mentions_member g a) (mentions_member g t || mentions_member g b) lacks in
      let (y, z) = neither (mentions_member g t) (mentions_member g b) rest in
      (entries-kept a h.0 x, entries-kept t h.1 y, entries-kept b h.2 z)
  entries-kept (Const c) h lacks = constant-kept c h lacks
  entries-kept (Fam n) h lacks = family-kept n h
  entries-kept (Con n c) h lacks = constructor-kept n c h
  entries-kept (Elim n m) h lacks = family-kept n h
  entries-kept (AxiomK i m) h lacks = tt

  kept : (n : ℕ) (t : Term) → IsScoped U n t → mentions_member g t ≡ false → IsScoped T n t
  kept n t h lacks = record { variables = h.variables; entries = entries-kept t h.entries lacks }

  run-entries : (head : Term) (depth start count : ℕ) → HasEntries T head → HasEntries T (applied head (run depth start count))
  run-entries head depth start zero h = h
  run-entries head depth start (suc count) h = run-entries (App head (variable depth start)) depth (start + 1) count (h, tt)

  run-free : (head : Term) (depth start count : ℕ) → free_of head ≤ depth → start + count ≤ depth → free_of (applied head (run depth start count)) ≤ depth
  run-free head depth start zero h low = h
  run-free head depth start (suc count) h low = run-free (App head (variable depth start)) depth (start + 1) count (omega arith) (omega arith)

  tagged-scoped : (k under : ℕ) → k < g.count → IsScoped T (g.params + under) (tagged g k (g.params + under))
  tagged-scoped k under low =
      let depth = g.params + under in
      let head = Fam (g.first + 1) in
      let free = run-free head depth 0 g.params (omega arith) (omega arith) in
      record { variables = omega (arith, free); entries = (run-entries head depth 0 g.params has.family, has.tags k low) }

  end-scoped : (under : ℕ) (t : Term) → is_positive_end g under t ≡ true → IsScoped U (g.params + under) t → IsScoped T (g.params + under) (packed_end g under t)
  end-scoped under t positive h = by (whole_member g under t) refl positive
    where
      by : (o : Option ℕ) → whole_member g under t ≡ o → is_some o || not (mentions_member g t) ≡ true → IsScoped T (g.params + under) (option_map_or (λ k. tagged g k (g.params + under)) o t)
      by (Some k) found e = tagged-scoped k under (below-count g k (member-form g g.params under k t found).member)
      by None found e = kept (g.params + under) t h (untrue (mentions_member g t) e)

  -- a product, from its parts
  product-scoped : (under : ℕ) (a b : Term) → IsScoped T (g.params + under) a → IsScoped T (g.params + (under + 1)) b → IsScoped T (g.params + under) (Pi a b)
  product-scoped under a b x y =
      let first = x.variables in let rest = y.variables in record { variables = omega arith; entries = (x.entries, y.entries) }

  domain-scoped : (under : ℕ) (a b : Term) → IsScoped U (g.params + under) (Pi a b) → IsScoped U (g.params + under) a
  domain-scoped under a b h = let whole = h.variables in record { variables = omega arith; entries = h.entries.0 }

  codomain-scoped : (under : ℕ) (a b : Term) → IsScoped U (g.params + under) (Pi a b) → IsScoped U (g.params + (under + 1)) b
  codomain-scoped under a b h = let whole = h.variables in record { variables = omega arith; entries = h.entries.1 }

  argument-scoped : (under : ℕ) (t : Term) → is_positive_argument g under t ≡ true → IsScoped U (g.params + under) t → IsScoped T (g.params + under) (packed_argument g under t)
  argument-scoped under (Pi a b) positive h =
      let (x, y) = both (not (mentions_member g a)) (is_positive_argument g (under + 1) b) positive in
      product-scoped under a (packed_argument g (under + 1) b) (kept (g.params + under) a (domain-scoped under a b h) (untrue (mentions_member g a) x))
      (argument-scoped (under + 1) b y (codomain-scoped under a b h))
  argument-scoped under t positive h = end-scoped under t positive h

  type-scoped : (under : ℕ) (t : Term) → offending_argument g under t ≡ None → IsScoped U (g.params + under) t → IsScoped T (g.params + under) (packed_type g under t)
  type-scoped under (Pi a b) none h = by (λ rest. type-scoped (under + 1) b rest (codomain-scoped under a b h)) (is_positive_argument g under a) refl none
    where
      by : (offending_argument g (under + 1) b ≡ None → IsScoped T (g.params + (under + 1)) (packed_type g (under + 1) b))
          → (p : Bool) → is_positive_argument g under a ≡ p → cond p (offending_argument g (under + 1) b) (Some (under + 1)) ≡ None → IsScoped T (g.params + under) (packed_type g under (Pi a b))
      by behind true positive rest =
          product-scoped under (packed_argument g under a) (packed_type g (under + 1) b) (argument-scoped under a positive (domain-scoped under a b h)) (behind rest)
      by behind false positive rest = absurd cc
  type-scoped under t none h = end-scoped under t (result-positive (is_positive_end g under t) none) h

  -- ---- constructors

  abbrev Scoped : RawConstructor → Type 0
  Scoped c = IsScoped T g.params c.type

  constructor-scoped : (c : RawConstructor) → IsFitting g c → IsScoped U g.params c.type → Scoped (packed_constructor g c)
  constructor-scoped c fits h =
      let none : g.params ≡ g.params + 0 = omega arith in
      subst (λ n. IsScoped T n (packed_type g 0 c.type)) (sym none) (type-scoped 0 c.type fits (subst (λ n. IsScoped U n c.type) none h))

  constructors-scoped : (constructors : List RawConstructor) → AreFitting g constructors → All (λ c. IsScoped U g.params c.type) constructors → All Scoped (map (packed_constructor g) constructors)
  constructors-scoped [] fitting all = All-nil Scoped
  constructors-scoped (c ∷ constructors) fitting all =
      let Written : RawConstructor → Type 0 = λ c. IsScoped U g.params c.type in
      All-cons Scoped (packed_constructor g c) (map (packed_constructor g) constructors)
      (constructor-scoped c (All-head (IsFitting g) c constructors fitting) (All-head Written c constructors all))
      (constructors-scoped constructors (All-tail (IsFitting g) c constructors fitting) (All-tail Written c constructors all))

pub packed-is-scoped : PackedIsScoped
packed-is-scoped S T d packed e members longer has =
    let g = members_of (length S.entries) d in
    let is = packed-as (length S.entries) d packed e in
    let there : (k : ℕ) → k < length d.members → IsConstantNumber (with_placeholders S g.count) (length S.entries + k) =
    λ k lt. ([], Sort 0, Sort 0, slice_get-append_right S.entries (placeholders g.count) k ∙ placeholder-there g.count k lt) in
    let written = members (with_placeholders S g.count) (record { more = placeholders g.count; entries = refl; has_k = refl }) there in
    subst (λ p. All (λ c. IsScoped T (length d.parameters) c.type) p.family.constructors) is.same
    (constructors-scoped S T g refl longer has (all_constructors d.members) is.fitting written)
