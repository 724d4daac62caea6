-- The packed family is positive where the members stand only where they may.
use Rattle.std.proofs.Common.{◌≡◌, ℕ, zero, suc, ◌+◌, ◌==◌, Bool, true, false, ◌&&◌, ◌||◌, not, cond, if◌then◌else◌, List, [], ◌∷◌, map, Option, Some, None, is_some, option_map, All, refl, ap, ap₂, sym, ◌∙◌, subst, arith}
use Rattle.std.proofs.lemmas.Bool.Decides.{Decides-eqb, nat_tests}
use Rattle.std.proofs.lemmas.List.Elements.{All-head, All-tail, All-nil, All-cons}
use Rattle.std.specs.Option.{option_map_or}
use Rattle.theory.specs.Terms.{Term}
use Rattle.theory.specs.Terms.Term.{Var, Pi, App, Fam}
use Rattle.theory.specs.Families.{mentions}
use Rattle.theory.specs.Telescopes.{applied}
use Rattle.core_terms.specs.Levels.{variable, run}
use Rattle.core_terms.proofs.Builders.{applied-push}
use Rattle.core_terms.proofs.Placing.{run-push}
use Rattle.core_sig.specs.KindTests.{is_at_parameters, inner_count}
use Rattle.core_sig.specs.Raw.{RawConstructor}
use Rattle.mutual_pack.specs.declared.members.Members.{Members}
use Rattle.mutual_pack.specs.Members.{mentions_member, whole_member, is_positive_end, is_positive_argument, offending_argument}
use Rattle.mutual_pack.specs.MutualFamilies.{all_constructors}
use Rattle.mutual_pack.specs.Packing.{tagged, packed_end, packed_argument, packed_type, packed_constructor, members_of}
use Rattle.mutual_pack.specs.PackingLaws.{is_recursive_or_lacks, has_positive_arguments, PackedIsPositive}
use Rattle.mutual_pack.proofs.PackedTypes.{both, neither, IsFitting, AreFitting, packed-as}

-- ---- the packed family at its parameters and a tag

at-parameters : (n p at : ℕ) → is_at_parameters n p at (applied (Fam n) (run (p + at) 0 p)) ≡ true
at-parameters n zero at = (Decides-eqb n n).1 refl
at-parameters n (suc p) at =
    let depth : p + (at + 1) ≡ suc p + at = omega arith in
    let last : variable (suc p + at) (0 + p) ≡ Var at = ap Var (omega arith) in
    let form : applied (Fam n) (run (suc p + at) 0 (suc p)) ≡ App (applied (Fam n) (run (p + (at + 1)) 0 p)) (Var at) =
    ap (applied (Fam n)) (run-push (suc p + at) 0 p) ∙ (applied-push (Fam n) (run (suc p + at) 0 p) (variable (suc p + at) (0 + p)) ∙ ap₂ (λ d v. App (applied (Fam n) (run d 0 p)) v) (sym depth) last) in
    ap (is_at_parameters n (suc p) at) form ∙ ap₂ (λ x y. x && y) ((Decides-eqb at at).1 refl) (at-parameters n p (at + 1))

other-number : (n : ℕ) → (n == n + 1) ≡ false
other-number n = grind (arith, nat_tests)

tagged-counts : (g : Members) (k at : ℕ) → inner_count (g.first + 1) g.params 1 at (tagged g k (g.params + at)) ≡ Some 0
tagged-counts g k at =
    ap (λ b. if b then Some 0 else None) (ap₂ (λ x y. x && not y) (at-parameters (g.first + 1) g.params at) (other-number g.first))

-- ---- types

or-true : (a b : Bool) → b ≡ true → a || b ≡ true
or-true true b e = refl
or-true false b e = e

-- where the end of a type is positive and does not mention the packed family, the packed end is recursive or does not mention it
end-positive : (g : Members) (at : ℕ) (t : Term) → mentions (g.first + 1) t ≡ false → is_positive_end g at t ≡ true
    → is_recursive_or_lacks (g.first + 1) g.params at (packed_end g at t) ≡ true
end-positive g at t lacks positive = by (whole_member g at t)
  where
    by : (o : Option ℕ) → is_recursive_or_lacks (g.first + 1) g.params at (option_map_or (λ k. tagged g k (g.params + at)) o t) ≡ true
    by (Some k) = ap (λ o. is_some o || not (mentions (g.first + 1) (tagged g k (g.params + at)))) (tagged-counts g k at)
    by None = or-true (is_some (inner_count (g.first + 1) g.params 1 at t)) (not (mentions (g.first + 1) t)) (ap not lacks)

argument-positive : (g : Members) (at : ℕ) (t : Term) → mentions (g.first + 1) t ≡ false → is_positive_argument g at t ≡ true
    → is_recursive_or_lacks (g.first + 1) g.params at (packed_argument g at t) ≡ true
argument-positive g at (Pi a b) lacks positive =
    let n = g.first + 1 in
    let (first, rest) = neither (mentions n a) (mentions n b) lacks in
    let (x, y) = both (not (mentions_member g a)) (is_positive_argument g (at + 1) b) positive in
    by (mentions n a) first (inner_count n g.params 1 (at + 1) (packed_argument g (at + 1) b)) (mentions n (packed_argument g (at + 1) b)) (argument-positive g (at + 1) b rest y)
  where
    by : (m : Bool) → m ≡ false → (o : Option ℕ) (r : Bool) → is_some o || not r ≡ true → is_some (if m then None else option_map suc o) || not (m || r) ≡ true
    by true e o r h = absurd cc
    by false e (Some k) r h = refl
    by false e None r h = h
argument-positive g at t lacks positive = end-positive g at t lacks positive

type-positive : (g : Members) (at : ℕ) (t : Term) → mentions (g.first + 1) t ≡ false → offending_argument g at t ≡ None → has_positive_arguments (g.first + 1) g.params at (packed_type g at t) ≡ true
type-positive g at (Pi a b) lacks none =
    let (first, rest) = neither (mentions (g.first + 1) a) (mentions (g.first + 1) b) lacks in
    by (argument-positive g at a first) (type-positive g (at + 1) b rest) (is_positive_argument g at a) refl none
  where
    by : (is_positive_argument g at a ≡ true → is_recursive_or_lacks (g.first + 1) g.params at (packed_argument g at a) ≡ true)
        → (offending_argument g (at + 1) b ≡ None → has_positive_arguments (g.first + 1) g.params (at + 1) (packed_type g (at + 1) b) ≡ true) → (p : Bool) → is_positive_argument g at a ≡ p → cond p (offending_argument g (at + 1) b) (Some (at + 1)) ≡ None
        → has_positive_arguments (g.first + 1) g.params at (packed_type g at (Pi a b)) ≡ true
    by here behind true positive more = ap₂ (λ x y. x && y) (here positive) (behind more)
    by here behind false positive more = absurd cc
type-positive g at t lacks none = by (whole_member g at t)
  where
    by : (o : Option ℕ) → has_positive_arguments (g.first + 1) g.params at (option_map_or (λ k. tagged g k (g.params + at)) o t) ≡ true
    by (Some k) = refl
    by None = refl

-- ---- constructors

abbrev LacksPacked : Members → RawConstructor → Type 0
LacksPacked g c = mentions (g.first + 1) c.type ≡ false

abbrev HasPositive : Members → RawConstructor → Type 0
HasPositive g c = has_positive_arguments (g.first + 1) g.params 0 c.type ≡ true

all-positive : (g : Members) (constructors : List RawConstructor) → All (LacksPacked g) constructors → AreFitting g constructors → All (HasPositive g) (map (packed_constructor g) constructors)
all-positive g [] lacks fitting = All-nil (HasPositive g)
all-positive g (c ∷ constructors) lacks fitting =
    All-cons (HasPositive g) (packed_constructor g c) (map (packed_constructor g) constructors)
    (type-positive g 0 c.type (All-head (LacksPacked g) c constructors lacks) (All-head (IsFitting g) c constructors fitting))
    (all-positive g constructors (All-tail (LacksPacked g) c constructors lacks) (All-tail (IsFitting g) c constructors fitting))

pub packed-is-positive : PackedIsPositive
packed-is-positive base d packed e lacks =
    let g = members_of base d in
    let is = packed-as base d packed e in
    subst (λ p. All (HasPositive g) p.family.constructors) is.same (all-positive g (all_constructors d.members) lacks is.fitting)
