-- Where the definition of a turn makes the state after an injectivity, its parts are low.
use Rattle.std.proofs.Common.{◌≡◌, ℕ, ◌+◌, ◌≤◌, ◌==◌, nat_le, Bool, true, false, cond, Some, List, length, map, take, drop, Result, Ok, Err, refl, sym, subst as transport, ◌∙◌, arith}
use Rattle.std.proofs.lemmas.Bool.{eqb-true}
use Rattle.std.proofs.lemmas.Bool.Decides.{nat_tests}
use Rattle.std.proofs.lemmas.List.{length-map, length-take}
use Rattle.std.proofs.lemmas.Option.{cond_some, option_and_then_some}
use Rattle.theory.specs.Terms.{Term, height}
use Rattle.theory.specs.Terms.Term.{Fam}
use Rattle.theory.specs.Families.{Constructor, Family}
use Rattle.theory.specs.Signatures.{Signature}
use Rattle.theory.specs.Spines.{head_of, spine_of}
use Rattle.core_terms.specs.Answers.{and_then, are_low, bounded_terms}
use Rattle.core_terms.specs.declared.stop.Stop.{Stop}
use Rattle.core_terms.specs.declared.stop.Stop.TheVariants.{Deep}
use Rattle.kernel_reduce.specs.Entries.{family_at}
use Rattle.kernel_reduce.proofs.LookUps.{both-true}
use Rattle.tele_eq.specs.Items.{Item}
use Rattle.tele_eq.specs.TelescopicEquality.{equations}
use Rattle.unification.specs.Built.{Built, built_of}
use Rattle.unification.specs.Groups.{are_nearest, lowered, Membership, membership_of, membership_with, with_places}
use Rattle.unification.specs.Heights.{are_low_items, bounded_items, bounded_state, equations_made, group_made, injected_made, injection_made, most_places}
use Rattle.unification.specs.Injecting.{group_proofs, injected_equations, lifted}
use Rattle.unification.specs.Records.{argument_items, constructor_terms, family_items}
use Rattle.unification.specs.States.{Equation, State}
use Rattle.unification.proofs.Constructors.{found}
use Rattle.unification.proofs.ScopedRecords.{length-argument_items}
use Rattle.problems.specs.Conditions.{AreLow}
use Rattle.problems.proofs.LowTerms.{low-drop, low-terms}
use Rattle.run_terms.proofs.MadeTerms.{if-both}
use Rattle.entry_laws.proofs.replay_laws.LowComparisons.{IsLowComparison, comparison_of}
use Rattle.entry_laws.proofs.replay_laws.LowInstances.{low-spine}

-- ---- answers after tests

passed : {A : Type 0} (b : Bool) (r : Result A Stop) (x : A) → ◌≡◌ {A = Result A Stop} (cond b r (Err Deep)) (Ok x) → (b ≡ true) × (r ≡ Ok x)
passed true r x e = (refl, e)
passed false r x e = absurd (cc)

items-passed : (X Y : List Item) → bounded_items X ≡ Ok Y → are_low_items X ≡ true
items-passed X Y e = (passed (are_low_items X) (Ok X) Y e).0

terms-passed : (ts us : List Term) → bounded_terms ts ≡ Ok us → AreLow ts
terms-passed ts us e = low-terms ts (passed (are_low ts) (Ok ts) us e).0

-- ---- the tests of an injectivity

pub record IsMadeLow (n number : ℕ) (f : Family) (c : Constructor) (ps : List Term) : Type 0 where
  pub few : length c.arguments ≤ 1000
  pub items : are_low_items (argument_items n ps c) ≡ true
  pub further : are_low_items (argument_items n (lifted (length c.arguments) ps) c) ≡ true
  pub members : are_low_items (family_items n f (lifted (length c.arguments) ps)) ≡ true
  pub terms : AreLow (constructor_terms n number (lifted (length c.arguments) ps) c)

few-places : (X : List Item) → nat_le (length X) most_places ≡ true → length X ≤ 1000
few-places X e = grind (arith, nat_tests)

pub equations-passed : (X : List Item) (us vs types : List Term) → equations_made X us vs ≡ Ok types → (length X ≤ 1000) × (are_low_items X ≡ true)
equations-passed X us vs types e =
    let rest : List Item → Result (List Term) Stop = λ items. bounded_terms (equations items us vs) in
    let test = passed (nat_le (length X) most_places) (and_then (bounded_items X) rest) types e in
    let both = if-both (bounded_items X) rest types test.1 in
    (few-places X test.0, items-passed X both.0 both.1)

pub made-low : (s t : State) (g n number : ℕ) (f : Family) (c : Constructor) (ps us vs : List Term) → injection_made s g n number f c ps us vs ≡ Ok t
    → IsMadeLow n number f c ps
made-low s t g n number f c ps us vs e =
    let X = argument_items n ps c in
    let ps' = lifted (length c.arguments) ps in
    let proofs = bounded_terms (group_proofs n number f c ps us vs) in
    let terms = and_then (bounded_terms (constructor_terms n number ps' c)) (λ terms. proofs) in
    let family = and_then (bounded_items (family_items n f ps')) (λ family. terms) in
    let last : Result (List Equation) Stop =
    and_then (bounded_terms (constructor_terms n number ps c)) (λ terms. Ok (injected_equations s g n number f c ps us vs)) in
    let whole = if-both (injected_made s g n number f c ps us vs) (λ es. bounded_state (record s { equations = es })) t e in
    let first =
    if-both (equations_made X us vs) (λ types. and_then (group_made n number f c ps us vs) (λ proofs. last)) whole.0 whole.1 in
    let second = if-both (group_made n number f c ps us vs) (λ proofs. last) whole.0 first.2 in
    let third = if-both (bounded_items (argument_items n ps' c)) (λ arguments. family) second.0 second.1 in
    let fourth = if-both (bounded_items (family_items n f ps')) (λ family. terms) second.0 third.2 in
    let fifth = if-both (bounded_terms (constructor_terms n number ps' c)) (λ terms. proofs) second.0 fourth.2 in
    let test = equations-passed X us vs first.0 first.1 in
    let count : length X ≡ length c.arguments = length-argument_items n ps c in
    let few : length X ≤ 1000 = test.0 in
    record {
      few = omega arith;
      items = test.1;
      further = items-passed (argument_items n ps' c) third.0 third.1;
      members = items-passed (family_items n f ps') fourth.0 fourth.1;
      terms = terms-passed (constructor_terms n number ps' c) fifth.0 fifth.1;
    }

-- the arguments of a low constructor
pub low-arguments : (S : Signature) (t : Term) (b : Built) → built_of S t ≡ Some b → height t ≤ 2000 → AreLow b.arguments
low-arguments S t b e low =
    transport AreLow (sym (found S t b e).arguments) (low-drop (length b.family.parameters) (spine_of t) (low-spine t low))

-- the compared terms are low
pub compared-low : (S : Signature) (l : Term) (b : Built) (r : Term) (d : Built) (f : Family) (ps indices : List Term) → built_of S l ≡ Some b
    → built_of S r ≡ Some d → height l ≤ 2000 → height r ≤ 2000 → length ps ≡ length f.parameters → length f.indices + 1 ≤ 1000
    → IsMadeLow b.n b.number f b.constructor ps → IsLowComparison (comparison_of b.n f ps b d indices)
compared-low S l b r d f ps indices lb rd hl hr whole few low = record {
  whole = whole;
  few = low.few;
  indices = few;
  items = low.items;
  further = low.further;
  members = low.members;
  terms = low.terms;
  left = low-arguments S l b lb hl;
  right = low-arguments S r d rd hr;
}

-- ---- memberships

-- family m.n has as many parameters as it is given
HasAll : Membership → Type 0
HasAll m = length m.parameters ≡ length m.family.parameters

places-whole : (k n : ℕ) (spine : List Term) (f : Family) (m : Membership) → with_places k n spine f ≡ Some m → HasAll m
unfolding HasAll
places-whole k n spine f m e =
    let tested = cond_some _ found m e in
    let parts = both-true _ _ tested.0 in
    let form = both-true (length f.indices == k) _ parts.0 in
    let places = both-true (length spine == length f.parameters + k) (are_nearest k (drop (length f.parameters) spine)) form.1 in
    let long : length spine ≡ length f.parameters + k = eqb-true _ _ places.0 in
    let shorter = length-take (length f.parameters) spine in
    transport HasAll tested.1 (length-map (take (length f.parameters) spine) (lowered k) ∙ omega arith)
  where
    found : Membership
    found = record { n = n; family = f; parameters = map (lowered k) (take (length f.parameters) spine) }

with-whole : (S : Signature) (k : ℕ) (h : Term) (spine : List Term) (m : Membership) → membership_with S k h spine ≡ Some m → HasAll m
with-whole S k (Fam n) spine m e =
    option_and_then_some _ (family_at S n) m e (λ f found placed. places-whole k n spine f m placed)
with-whole S k _ spine m e = absurd (grind arith)

pub membership-whole : (S : Signature) (k : ℕ) (type : Term) (m : Membership) → membership_of S k type ≡ Some m
    → length m.parameters ≡ length m.family.parameters
unfolding HasAll
membership-whole S k type m e = with-whole S k (head_of type) (spine_of type) m e
