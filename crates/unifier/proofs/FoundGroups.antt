-- A group that is found in a scoped and low type is scoped and low.
use Rattle.std.proofs.Common.{◌≡◌, ℕ, zero, suc, ◌+◌, ◌-◌, ◌≤◌, ◌==◌, Bool, true, false, cond, Option, Some, None, option_and_then, Ok, List, [], ◌∷◌, map, length, take, drop, All, refl, sym, ap, ◌∙◌, subst, arith}
use Rattle.std.proofs.lemmas.Bool.Decides.{nat_tests}
use Rattle.std.proofs.lemmas.List.{length-map, length-take}
use Rattle.std.proofs.lemmas.List.Elements.{All-tail}
use Rattle.theory.specs.Terms.{Term, height}
use Rattle.theory.specs.Terms.Term.{Fam}
use Rattle.theory.specs.Spines.{head_of, spine_of}
use Rattle.theory.specs.Families.{Family}
use Rattle.theory.specs.Signatures.{Signature}
use Rattle.theory.proofs.HeightInstances.{height-ren}
use Rattle.theory.proofs.ScopedTerms.{spine-scoped}
use Rattle.theory.specs.SignatureScopes.{IsScoped}
use Rattle.core_terms.specs.Answers.{Spent, and_next}
use Rattle.core_terms.specs.Meanings.{tree_of, tele_of}
use Rattle.core_sig.specs.Kinds.{HasKinds}
use Rattle.core_sig.specs.Meanings.{family_of}
use Rattle.kernel_reduce.specs.Entries.{family_at}
use Rattle.kernel_reduce.proofs.LookUps.{both-true}
use Rattle.kernel_reduce.proofs.SpineLengths.{spine_fits}
use Rattle.unification.specs.Groups.{are_nearest, lowered, Membership, with_places, membership_with, membership_of, group_trial, group_trials}
use Rattle.unification.specs.States.{State}
use Rattle.unification.specs.Turns.{Turn, unless_found}
use Rattle.unification.proofs.Memberships.{membership-is}
use Rattle.unifier.specs.CodeGroups.{IsGroupOf, membership_from}
use Rattle.problems.specs.Conditions.{AreGiven, AreLow, most_levels}
use Rattle.unifier.specs.declared.groups.Membership.{Membership as CodeMembership}
use Rattle.unifier.proofs.GroupCodes.{spine-low, take-low}

lowered-low : (k : ℕ) (us : List Term) → AreLow us → AreLow (map (lowered k) us)
lowered-low k [] h = tt
lowered-low k (u ∷ us) h = (let e = height-ren (λ n. n - k) u in omega (arith, h.0), lowered-low k us h.1)

pub number-same : (n m : ℕ) → (n == m) ≡ true → n ≡ m
number-same n m e = grind (arith, nat_tests)

-- an answer that is found after another one, or where a test holds
pub next-some : {A B : Type 0} (f : A → Option B) (o : Option A) (y : B) → option_and_then f o ≡ Some y → (x : A) × (o ≡ Some x) × (f x ≡ Some y)
next-some f (Some x) y e = (x, refl, e)
next-some f None y e = absurd (grind arith)

pub test-some : {A : Type 0} (t : Bool) (x y : A) → cond t (Some x) None ≡ Some y → (t ≡ true) × (x ≡ y)
test-some true x y e = (refl, grind arith)
test-some false x y e = absurd (grind arith)

-- the lengths and the parameters of a membership
record HasLengths (k : ℕ) (spine : List Term) (m : Membership) : Type 0 where
  indices : length m.family.indices ≡ k
  all : length spine ≡ length m.family.parameters + k
  parameters : m.parameters ≡ map (lowered k) (take (length m.family.parameters) spine)

places-lengths : (k n : ℕ) (spine : List Term) (f : Family) (m : Membership) → with_places k n spine f ≡ Some m → HasLengths k spine m
places-lengths k n spine f m e =
    let tested = test-some _ found m e in
    let parts = both-true _ _ tested.0 in
    let form = both-true (length f.indices == k) _ parts.0 in
    let places = both-true (length spine == length f.parameters + k) (are_nearest k (drop (length f.parameters) spine)) form.1 in
    subst (HasLengths k spine) tested.1
    (record { indices = number-same (length f.indices) k form.0; all = number-same (length spine) (length f.parameters + k) places.0; parameters = refl })
  where
    found : Membership
    found = record { n = n; family = f; parameters = map (lowered k) (take (length f.parameters) spine) }

with-lengths : (S : Signature) (k : ℕ) (h : Term) (spine : List Term) (m : Membership) → membership_with S k h spine ≡ Some m → HasLengths k spine m
with-lengths S k (Fam n) spine m e = let found = next-some _ (family_at S n) m e in places-lengths k n spine found.0 m found.2
with-lengths S k _ spine m e = absurd (grind arith)

parameters-given : (S : Signature) (n : ℕ) (us : List Term) → All (IsScoped S n) us → AreLow us → n ≤ most_levels → AreGiven S n us
parameters-given S n [] scoped low few = tt
parameters-given S n (u ∷ us) scoped low few =
    (record { scoped = scoped 0 u (omega arith); low = low.0; few = few }, parameters-given S n us (All-tail (IsScoped S n) u us scoped) low.1 few)

-- the family that the code has found
pub group-found : (S : Signature) (n k : ℕ) (t : Term) (m : CodeMembership) → IsScoped S (n + k) t → height t ≤ 2000 → n ≤ most_levels → membership_of S k t ≡ Some (membership_from m)
    → HasKinds m.number m.record.now → family_at S m.number ≡ Some (family_of m.record.now) → IsGroupOf S n k m
group-found S n k t m scoped low few e kinds family =
    let p = membership_from m in
    let h = with-lengths S k (head_of t) (spine_of t) p e in
    let fits = spine_fits t in
    let indices = length-map {B = Term × ℕ} m.record.now.indices (λ i. (tree_of i.ty, i.level)) in
    let params = length-map m.record.now.params tree_of in
    let count = ap length h.parameters ∙ length-map (take (length p.family.parameters) (spine_of t)) (lowered k) in
    let taken = length-take (length p.family.parameters) (spine_of t) in
    let made = length-map m.params tree_of in
    let member = membership-is S k t p e in
    record {
      family = family;
      kinds = kinds;
      indices = omega (arith, h.indices);
      few = omega (arith, h.all);
      count = omega (arith, h.all);
      parameters = parameters-given S n (tele_of m.params) (member.parameters n (spine-scoped S (n + k) t scoped))
          (subst AreLow (sym h.parameters) (lowered-low k (take (length p.family.parameters) (spine_of t)) (take-low (length p.family.parameters) (spine_of t) (spine-low t low)))) few;
    }

-- a turn of the greatest group
pub groups-found : (S : Signature) (s : State) (k left end : ℕ) (turn : Turn) → (k ≡ 0 → ⊥) → ◌≡◌ {A = Spent (Option Turn)} (Ok (Some turn), end) (group_trial S s k left)
    → ◌≡◌ {A = Spent (Option Turn)} (Ok (Some turn), end) (group_trials S s k left)
groups-found S s zero left end turn some h = absurd (some refl)
groups-found S s (suc k) left end turn some h = ap (λ r. and_next r (λ turn rest. unless_found turn (group_trials S s k) rest)) h
