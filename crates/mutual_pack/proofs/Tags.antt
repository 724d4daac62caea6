-- In the packed family each recursive argument ends at the tag of a member.
use Rattle.std.proofs.Common.{◌≡◌, ℕ, ◌+◌, ◌<◌, true, false, ◌||◌, List, [], ◌∷◌, ◌++◌, map, drop, length, Option, Some, None, All, refl, ap, ap₂, sym, ◌∙◌, arith}
use Rattle.std.proofs.lemmas.Bool.{false≢true}
use Rattle.std.proofs.lemmas.Bool.Decides.{Decides-eqb}
use Rattle.std.proofs.lemmas.List.{length-map}
use Rattle.std.proofs.lemmas.List.Elements.{All-head, All-tail, All-nil, All-cons}
use Rattle.std.proofs.Math.Seq.{drop-append_seam}
use Rattle.std.specs.Option.{option_map_or}
use Rattle.theory.specs.Terms.{Term}
use Rattle.theory.specs.Terms.Term.{Var, Sort, Pi, Lam, App, Let, Const, Fam, Con, Elim, AxiomK}
use Rattle.theory.specs.Substitutions.{inst, ups, weaken}
use Rattle.theory.specs.Spines.{head_of, spine_of}
use Rattle.theory.specs.Telescopes.{Telescope, products, applied, variables, weaken_by}
use Rattle.theory.specs.Families.{Argument, Plain, Recursive, Constructor, Family, mentions, family_head, recursive_type, argument_type, argument_types, index_types, family_type, constructor_type}
use Rattle.theory.proofs.Instances.{inst-same, inst-var}
use Rattle.core_terms.specs.Levels.{run}
use Rattle.core_terms.proofs.LeadingProducts.{is_product}
use Rattle.core_sig.specs.Raw.{RawConstructor, MutualRaw}
use Rattle.core_sig.proofs.Arguments.{spine_of-applied, length-spine_of-head, weaken-weaken_by}
use Rattle.core_sig.proofs.EntryInstances.{ren-id}
use Rattle.core_sig.proofs.RecursiveForms.{head-is}
use Rattle.mutual_pack.specs.declared.members.Members.{Members}
use Rattle.mutual_pack.specs.Members.{whole_member}
use Rattle.mutual_pack.specs.MutualFamilies.{all_constructors}
use Rattle.mutual_pack.specs.Packing.{tagged, packed_end, packed_argument, packed_type, packed_constructor, packed_family}
use Rattle.mutual_pack.proofs.PackedTypes.{neither}
use Rattle.mutual_pack.proofs.RecursionsConvert.{HasTag, IsIdentity, identity-up}
use Rattle.mutual_pack.proofs.Runs.{length-run}
use Rattle.mutual_pack.proofs.Unfolding.{member-form, below-count}

-- ---- heads and spines

pub head_of-applied : (head : Term) (ts : List Term) → head_of (applied head ts) ≡ head_of head
head_of-applied head [] = refl
head_of-applied head (t ∷ ts) = head_of-applied (App head t) ts

-- a term with a family as its head mentions it
pub mentions-head : (n : ℕ) (t : Term) → head_of t ≡ Fam n → mentions n t ≡ true
mentions-head n (App f a) e = ap (λ b. b || mentions n a) (mentions-head n f e)
mentions-head n (Fam f) e = let same : f ≡ n = cc in (Decides-eqb f n).1 same
mentions-head n (Var v) e = absurd cc
mentions-head n (Sort i) e = absurd cc
mentions-head n (Pi a b) e = absurd cc
mentions-head n (Lam a b) e = absurd cc
mentions-head n (Let a t b) e = absurd cc
mentions-head n (Const c) e = absurd cc
mentions-head n (Con f c) e = absurd cc
mentions-head n (Elim f m) e = absurd cc
mentions-head n (AxiomK i m) e = absurd cc

-- a family at its parameters, with arguments that may follow, has it as its head
head-family : (n at : ℕ) (f : Family) (ts : List Term) → head_of (applied (weaken_by at (family_head n f)) ts) ≡ Fam n
head-family n at f ts =
    head_of-applied (weaken_by at (family_head n f)) ts
    ∙ (ap head_of (head-is n f at) ∙ head_of-applied (Fam n) (map (weaken_by at) (variables (length f.parameters))))

inst-identity : (s : ℕ → Term) (ts : List Term) → IsIdentity s → map (inst s) ts ≡ ts
inst-identity s [] each = refl
inst-identity s (t ∷ ts) each = ap₂ ◌∷◌ (inst-same t each ∙ inst-var t) (inst-identity s ts each)

-- ---- one argument

abbrev IsTagOf : Members → List Term → Type 0
IsTagOf g targets = (j : ℕ) × (j < g.count) × (targets ≡ Con g.first j ∷ [])

-- the end of an argument's type, where the term that is packed does not mention the packed family
end-tagged : (g : Members) (f : Family) (at : ℕ) (s : ℕ → Term) (targets : List Term) (t : Term) → length f.parameters ≡ g.params → IsIdentity s → mentions (g.first + 1) t ≡ false
    → applied (weaken_by at (family_head (g.first + 1) f)) (map (inst s) targets) ≡ packed_end g at t → IsTagOf g targets
end-tagged g f at s targets t counted identity lacks e = by (whole_member g at t) refl e
  where
    n : ℕ
    n = g.first + 1

    head : Term
    head = weaken_by at (family_head n f)

    by : (o : Option ℕ) → whole_member g at t ≡ o → applied head (map (inst s) targets) ≡ option_map_or (λ k. tagged g k (g.params + at)) o t → IsTagOf g targets
    by None found is = absurd (false≢true (sym lacks ∙ mentions-head n t (ap head_of (sym is) ∙ head-family n at f (map (inst s) targets))))
    by (Some k) found is =
        let depth = g.params + at in
        let front = run depth 0 g.params in
        let last = Con g.first k ∷ [] in
        let spine : spine_of head ++ map (inst s) targets ≡ front ++ last =
        sym (spine_of-applied head (map (inst s) targets)) ∙ (ap spine_of is ∙ ap (λ us. us ++ last) (spine_of-applied (Fam n) front)) in
        let fronts : length (spine_of head) ≡ length front = length-spine_of-head n f at ∙ (counted ∙ sym (length-run depth 0 g.params)) in
        let ends : map (inst s) targets ≡ last =
        sym (drop-append_seam (spine_of head) (map (inst s) targets)) ∙ (ap₂ drop fronts spine ∙ drop-append_seam front last) in
        let member = member-form g g.params at k t found in
        (k, below-count g k member.member, sym (inst-identity s targets identity) ∙ ends)

-- what is packed is a product only where it was one
packed-product : (g : Members) (at : ℕ) (t a b : Term) → Pi a b ≡ packed_end g at t → is_product t ≡ true
packed-product g at t a b e = by (whole_member g at t) e
  where
    by : (o : Option ℕ) → Pi a b ≡ option_map_or (λ k. tagged g k (g.params + at)) o t → is_product t ≡ true
    by (Some k) is = absurd (false≢true (sym (ap is_product is)))
    by None is = sym (ap is_product is)

argument-tagged : (g : Members) (f : Family) (at : ℕ) (s : ℕ → Term) (inner : Telescope) (targets : List Term) (t : Term) → length f.parameters ≡ g.params → IsIdentity s → mentions (g.first + 1) t ≡ false
    → recursive_type s (weaken_by at (family_head (g.first + 1) f)) inner targets ≡ packed_argument g at t → IsTagOf g targets
argument-tagged g f at s [] targets (Pi a b) counted identity lacks e =
    let head : Fam (g.first + 1) ≡ Pi a (packed_argument g (at + 1) b) = sym (head-family (g.first + 1) at f (map (inst s) targets)) ∙ ap head_of e in
    absurd cc
argument-tagged g f at s [] targets t counted identity lacks e = end-tagged g f at s targets t counted identity lacks e
argument-tagged g f at s (x ∷ inner) targets (Pi a b) counted identity lacks e =
    let n = g.first + 1 in
    let rest : recursive_type (ups s) (weaken (weaken_by at (family_head n f))) inner targets ≡ packed_argument g (at + 1) b = cc in
    argument-tagged g f (at + 1) (ups s) inner targets b counted (identity-up s identity) (neither (mentions n a) (mentions n b) lacks).1
    (ap (λ h. recursive_type (ups s) h inner targets) (sym (weaken-weaken_by at (family_head n f))) ∙ rest)
argument-tagged g f at s (x ∷ inner) targets t counted identity lacks e =
    absurd (false≢true (packed-product g at t (inst s x) (recursive_type (ups s) (weaken (weaken_by at (family_head (g.first + 1) f))) inner targets) e))

-- ---- all arguments

arguments-tagged : (g : Members) (f : Family) (at : ℕ) (s : ℕ → Term) (arguments : List Argument) (end t : Term) → length f.parameters ≡ g.params → IsIdentity s → mentions (g.first + 1) t ≡ false
    → products (argument_types s (weaken_by at (family_head (g.first + 1) f)) arguments) end ≡ packed_type g at t → All (HasTag g.first g.count) arguments
arguments-tagged g f at s [] end t counted identity lacks e = All-nil (HasTag g.first g.count)
arguments-tagged g f at s (x ∷ arguments) end (Pi a b) counted identity lacks e =
    let n = g.first + 1 in
    let head = weaken_by at (family_head n f) in
    let here : argument_type s head x ≡ packed_argument g at a = cc in
    let rest : products (argument_types (ups s) (weaken head) arguments) end ≡ packed_type g (at + 1) b = cc in
    let (first, behind) = neither (mentions n a) (mentions n b) lacks in
    All-cons (HasTag g.first g.count) x arguments (by x first here)
    (arguments-tagged g f (at + 1) (ups s) arguments end b counted (identity-up s identity) behind
    (ap (λ h. products (argument_types (ups s) h arguments) end) (sym (weaken-weaken_by at (family_head n f))) ∙ rest))
  where
    by : (x : Argument) → mentions (g.first + 1) a ≡ false → argument_type s (weaken_by at (family_head (g.first + 1) f)) x ≡ packed_argument g at a → HasTag g.first g.count x
    by (Plain type level) first here = tt
    by (Recursive inner targets level) first here = argument-tagged g f at s inner targets a counted identity first here
arguments-tagged g f at s (x ∷ arguments) end t counted identity lacks e =
    absurd (false≢true (packed-product g at t (argument_type s (weaken_by at (family_head (g.first + 1) f)) x) (products (argument_types (ups s) (weaken (weaken_by at (family_head (g.first + 1) f))) arguments) end) e))

-- ---- all constructors

under-same : (tele : Telescope) (a b : Term) → products tele a ≡ products tele b → a ≡ b
under-same [] a b e = e
under-same (x ∷ tele) a b e = under-same tele a b cc

-- the written type does not mention the packed family
abbrev pub LacksFamily : Members → RawConstructor → Type 0
LacksFamily g c = mentions (g.first + 1) c.type ≡ false

head-itself : (n : ℕ) (f : Family) → weaken_by 0 (family_head n f) ≡ family_head n f
head-itself n f = ren-id (λ k. k + 0) (family_head n f) (λ k. omega arith)

constructors-tagged : (g : Members) (f : Family) (cs : List Constructor) (raws : List RawConstructor) → length f.parameters ≡ g.params → All (LacksFamily g) raws
    → map (constructor_type (g.first + 1) f) cs ≡ map (λ c. products f.parameters c.type) (map (packed_constructor g) raws) → All (λ c. All (HasTag g.first g.count) c.arguments) cs
constructors-tagged g f [] raws counted lacks e = All-nil (λ c. All (HasTag g.first g.count) c.arguments)
constructors-tagged g f (c ∷ cs) [] counted lacks e = absurd cc
constructors-tagged g f (c ∷ cs) (raw ∷ raws) counted lacks e =
    let n = g.first + 1 in
    let end = applied (weaken_by (length c.arguments) (family_head n f)) c.targets in
    let here : constructor_type n f c ≡ products f.parameters (packed_type g 0 raw.type) = cc in
    let rest : map (constructor_type n f) cs ≡ map (λ c. products f.parameters c.type) (map (packed_constructor g) raws) = cc in
    let types = under-same f.parameters (products (argument_types Var (family_head n f) c.arguments) end) (packed_type g 0 raw.type) here in
    All-cons (λ c. All (HasTag g.first g.count) c.arguments) c cs
    (arguments-tagged g f 0 Var c.arguments end raw.type counted (λ v. refl) (All-head (LacksFamily g) raw raws lacks)
    (ap (λ h. products (argument_types Var h c.arguments) end) (head-itself n f) ∙ types))
    (constructors-tagged g f cs raws counted (All-tail (LacksFamily g) raw raws lacks) rest)

-- ---- the index

one-type : (tele : Telescope) (i l : ℕ) (a : Term) → products tele (Sort i) ≡ Pi a (Sort l) → length tele ≡ 1
one-type [] i l a e = absurd cc
one-type (x ∷ []) i l a e = refl
one-type (x ∷ y ∷ tele) i l a e =
    let rest : Pi y (products tele (Sort i)) ≡ Sort l = cc in absurd cc

-- the packed family has one index, its tag
pub one-index : (f : Family) (l : ℕ) (a : Term) → family_type f ≡ products f.parameters (Pi a (Sort l)) → length f.indices ≡ 1
one-index f l a e = sym (length-map f.indices (λ i. i.0)) ∙ one-type (index_types f) f.level l a (under-same f.parameters (products (index_types f) (Sort f.level)) (Pi a (Sort l)) e)

-- what is packed has such constructors
pub packed-tagged : (g : Members) (l : ℕ) (d : MutualRaw) (f : Family) → g.params ≡ length d.parameters → All (LacksFamily g) (all_constructors d.members) → f.parameters ≡ d.parameters
    → map (constructor_type (g.first + 1) f) f.constructors ≡ map (λ c. products d.parameters c.type) (packed_family g l d).constructors → All (λ c. All (HasTag g.first g.count) c.arguments) f.constructors
packed-tagged g l d f params lacks parameters types =
    constructors-tagged g f f.constructors (all_constructors d.members) (ap length parameters ∙ sym params) lacks
    (types ∙ ap (λ tele. map (λ (c : RawConstructor). products tele c.type) (map (packed_constructor g) (all_constructors d.members))) (sym parameters))
