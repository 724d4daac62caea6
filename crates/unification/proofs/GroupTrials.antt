-- The turns of the trials of groups: injectivity and conflict of several equations.
use Rattle.std.proofs.Common.{◌≡◌, ◌≢◌, ℕ, zero, suc, ◌+◌, ◌≤◌, ◌==◌, Bool, true, false, IsTrue, Option, Some, None, IfSome, Ok, List, [], ◌∷◌, length, take, slice_get, refl, ap, sym, subst as transport, ◌∙◌, arith}
use Rattle.std.proofs.lemmas.Bool.{eqb-true, eqb-false}
use Rattle.std.proofs.lemmas.List.{length-take}
use Rattle.std.proofs.lemmas.Option.{slice_get_within}
use Rattle.theory.specs.Terms.{Term}
use Rattle.theory.specs.Spines.{spine_of}
use Rattle.theory.specs.Signatures.{Signature, FamilyOf, IsEntryAt}
use Rattle.theory.specs.Conversion.{Converts}
use Rattle.theory.proofs.ScopedTerms.{spine-scoped}
use Rattle.kernel_reduce.specs.Comparison.{second_if}
use Rattle.tele_eq.specs.ReflexivityLaws.{EachConverts}
use Rattle.tele_eq.specs.TelescopicEquality.{equations}
use Rattle.tele_eq.specs.Items.{Item}
use Rattle.unification.specs.Built.{Built, term_of}
use Rattle.unification.specs.Groups.{Membership, membership_of, all_convertible, are_equations_of, group_turn, if_holds, on_membership, last_trial, group_trial, group_trials}
use Rattle.unification.specs.Heights.{equations_made}
use Rattle.unification.specs.Records.{family_items}
use Rattle.unification.specs.Rules.{IsGroup}
use Rattle.unification.specs.Rules.Steps.{inject_group}
use Rattle.unification.specs.Rules.IsAbsurd.{conflict_group}
use Rattle.unification.specs.ScopedStates.{IsScopedEquation, IsScopedState}
use Rattle.unification.specs.States.{Equation, State, left_sides, right_sides, types_as_they_stand}
use Rattle.unification.proofs.BothConstructors.{injects-is, conflicts-is, left-converts, right-converts}
use Rattle.unification.proofs.Comparisons.{compared-within}
use Rattle.unification.proofs.Constructors.{built-is}
use Rattle.unification.proofs.Counts.{length-equations, length-types}
use Rattle.unification.proofs.HeadForms.{AreSides, Stay, on_constructors-comes}
use Rattle.unification.proofs.Memberships.{IsMembership, membership-is}
use Rattle.unification.proofs.MovedEquations.{equations-at}
use Rattle.unification.proofs.Reducts.{IsReduct, reduced-within}
use Rattle.unification.proofs.ScopedEquations.{equations_made-has}
use Rattle.unification.proofs.ScopedRecords.{length-family_items}
use Rattle.unification.proofs.SpentUnits.{Within, answered-within, within-later, and_next-within}
use Rattle.unification.proofs.Trials.{Found, Comes, none-comes, or_else-comes, cond-comes}
use Rattle.unification.proofs.TurnProperties.{IsTurn}

-- ---- types that are found convertible

-- where they are found to be so, these terms convert one by one
abbrev AllConvert : Signature → (types others : List Term) → Bool → ℕ → Type 0
AllConvert S types others holds rest = IsTrue holds → EachConverts S types others

all_convertible-within : (S : Signature) (types others : List Term) → length types ≡ length others → (left : ℕ)
    → Within left (AllConvert S types others) (all_convertible S types others left)
all_convertible-within S [] [] e left = answered-within (AllConvert S [] []) (Ok true) left (λ holds. tt)
all_convertible-within S [] (b ∷ others) e left = absurd (omega arith)
all_convertible-within S (a ∷ types) [] e left = absurd (omega arith)
all_convertible-within S (a ∷ types) (b ∷ others) e left =
    compared-within (AllConvert S (a ∷ types) (b ∷ others)) S a b left _ (λ holds rest le h.
    by holds rest h (all_convertible-within S types others (omega arith) rest))
  where
    by : (holds : Bool) (rest : ℕ) → (IsTrue holds → Converts S a b) → Within rest (AllConvert S types others) (all_convertible S types others rest)
        → Within rest (AllConvert S (a ∷ types) (b ∷ others)) (second_if holds (all_convertible S types others) rest)
    by true rest h k =
        within-later (AllConvert S types others) (AllConvert S (a ∷ types) (b ∷ others)) (all_convertible S types others rest) rest rest (omega arith)
        (λ holds end le all. λ true_too. (h refl, all true_too)) k
    by false rest h k = answered-within (AllConvert S (a ∷ types) (b ∷ others)) (Ok false) rest (λ holds. absurd (grind arith))

-- the equations of the telescope I, D ps I between the sides of a group
abbrev family_equations : Membership → List Equation → List Term
family_equations m group = equations (family_items m.n m.family m.parameters) (left_sides group) (right_sides group)

are_equations-within : (S : Signature) (m : Membership) (group : List Equation) → length group ≡ length m.family.indices + 1 → (left : ℕ)
    → Within left (AllConvert S (types_as_they_stand group) (family_equations m group)) (are_equations_of S m group left)
are_equations-within S m group count left =
    and_next-within (λ types rest. types ≡ family_equations m group) (AllConvert S (types_as_they_stand group) (family_equations m group)) _ _ left
    (answered-within (λ types rest. types ≡ family_equations m group) (equations_made X (left_sides group) (right_sides group)) left
    (equations_made-has (λ types. types ≡ family_equations m group) X (left_sides group) (right_sides group) refl))
    (λ types rest le is.
    transport
    (λ others. Within rest (AllConvert S (types_as_they_stand group) (family_equations m group)) (all_convertible S (types_as_they_stand group) others rest))
    (sym is) (all_convertible-within S (types_as_they_stand group) (family_equations m group) same rest))
  where
    X : List Item
    X = family_items m.n m.family m.parameters

    same : length (types_as_they_stand group) ≡ length (family_equations m group)
    same =
        length-types group ∙ (count
        ∙ (sym (length-family_items m.n m.family m.parameters)
        ∙ sym (length-equations (family_items m.n m.family m.parameters) (left_sides group) (right_sides group))))

length-group : (k : ℕ) (equations : List Equation) (e : Equation) → slice_get equations k ≡ Some e → length (take (k + 1) equations) ≡ k + 1
length-group k equations e at =
    let within = slice_get_within equations k e at in
    let l = length-take (k + 1) equations in
    omega arith

-- ---- the last equation of a group

-- equation e is number k of the state, its place has the type `type` up to conversion, and that is membership m
record IsLast (S : Signature) (s : State) (k : ℕ) (e : Equation) (type : Term) (m : Membership) : Type 0 where
  pub at : slice_get s.equations k ≡ Some e
  pub some : k ≢ 0
  pub place : IsReduct S e.place.type type
  pub membership : IsMembership S k type (spine_of type) m

-- in a scoped state it is scoped
last-scoped : (S : Signature) (s : State) (k : ℕ) (e : Equation) → slice_get s.equations k ≡ Some e → IsScopedState S s
    → IsScopedEquation S (length s.context) k e
last-scoped S s k e at scoped =
    transport (λ i. IsScopedEquation S (length s.context) i e) (let none : 0 + k ≡ k = omega arith in none)
    (transport (λ o. IfSome o (IsScopedEquation S (length s.context) (0 + k))) at (equations-at S (length s.context) 0 k s.equations scoped.equations))

group_turn-is : (S : Signature) (s : State) (left k : ℕ) (e : Equation) (type : Term) (m : Membership) → IsLast S s k e type m → (l : Term) (b : Built)
    (r : Term) (d : Built) → AreSides S (λ b. b.n == m.n) e.left e.right l b r d
    → EachConverts S (types_as_they_stand (take (k + 1) s.equations)) (family_equations m (take (k + 1) s.equations)) → (rest : ℕ) → rest ≤ left
    → Stay left e.left e.right l r rest → Comes (IsTurn S s left) (group_turn S s k e m type l b r d) rest
group_turn-is S s left k e type m last l b r d sides types rest le stay =
    cond-comes (IsTurn S s left) (b.number == d.number) _ _ rest
    (λ number. injects-is S s left k e type (λ b. b.n == m.n) l b r d m.family m.parameters rest last.at le sides stay number (λ ready scoped.
    let there = last-scoped S s k e last.at scoped in
    let shown = last.place.scoped (length s.context + k) ready.scoped there.place in
    record {
      sides = (there.left, there.right);
      type_scoped = shown;
      entry = transport (λ n. IsEntryAt S n (FamilyOf m.family)) (sym family) last.membership.family;
      parameters = last.membership.parameters (length s.context) (spine-scoped S (length s.context + k) type shown);
      step =
          inject_group s k m.family m.parameters type b d (built-is S l b sides.left_built).built (built-is S r d sides.right_built).built sides.family
          (eqb-true b.number d.number number) group;
    }))
    (λ other. conflicts-is S s left k e type (λ b. b.n == m.n) l b r d rest sides (λ ready scoped.
    let there = last-scoped S s k e last.at scoped in
    record {
      sides = (there.left, there.right);
      type_scoped = last.place.scoped (length s.context + k) ready.scoped there.place;
      evidence =
          conflict_group s k m.family m.parameters type b d (built-is S l b sides.left_built).built (built-is S r d sides.right_built).built sides.family
          (eqb-false b.number d.number other) group;
    }))
  where
    family : b.n ≡ m.n
    family = eqb-true b.n m.n sides.fitting

    group : IsGroup S s k b.n m.family m.parameters type (term_of b) (term_of d)
    group =
        transport (λ n. IsGroup S s k n m.family m.parameters type (term_of b) (term_of d)) (sym family)
        (record {
          last = e;
          is_last = last.at;
          family = last.membership.family;
          level = last.membership.level;
          indices = last.membership.indices;
          members = last.some;
          place = last.place.converts;
          form = last.membership.form;
          left = left-converts S (λ b. b.n == m.n) e.left e.right l b r d sides;
          right = right-converts S (λ b. b.n == m.n) e.left e.right l b r d sides;
          types = types;
        })

if_holds-is : (S : Signature) (s : State) (left k : ℕ) (e : Equation) (type : Term) (m : Membership) → IsLast S s k e type m → (l : Term) (b : Built)
    (r : Term) (d : Built) → AreSides S (λ b. b.n == m.n) e.left e.right l b r d → (holds : Bool)
    → (IsTrue holds → EachConverts S (types_as_they_stand (take (k + 1) s.equations)) (family_equations m (take (k + 1) s.equations)))
    → (rest : ℕ) → rest ≤ left → Stay left e.left e.right l r rest → Comes (IsTurn S s left) (if_holds holds (group_turn S s k e m type l b r d)) rest
if_holds-is S s left k e type m last l b r d sides true types rest le stay =
    group_turn-is S s left k e type m last l b r d sides (types refl) rest le stay
if_holds-is S s left k e type m last l b r d sides false types rest le stay = none-comes (IsTurn S s left) rest

on_membership-is : (S : Signature) (s : State) (left k : ℕ) (e : Equation) (type : Term) → slice_get s.equations k ≡ Some e → k ≢ 0
    → IsReduct S e.place.type type → (o : Option Membership) → membership_of S k type ≡ o → (rest : ℕ) → rest ≤ left
    → Comes (IsTurn S s left) (on_membership S s k e type o) rest
on_membership-is S s left k e type at some place None is rest le = none-comes (IsTurn S s left) rest
on_membership-is S s left k e type at some place (Some m) is rest le =
    on_constructors-comes (IsTurn S s left) S (λ b. b.n == m.n) e.left e.right _ rest (λ l b r d middle le' sides stay.
    and_next-within (AllConvert S (types_as_they_stand (take (k + 1) s.equations)) (family_equations m (take (k + 1) s.equations))) (Found (IsTurn S s left))
    (are_equations_of S m (take (k + 1) s.equations) middle) _ middle
    (are_equations-within S m (take (k + 1) s.equations) (length-group k s.equations e at ∙ ap (λ i. i + 1) (sym membership.indices)) middle)
    (λ holds end le'' types.
    if_holds-is S s left k e type m (record { at = at; some = some; place = place; membership = membership }) l b r d sides holds types end (omega arith)
    (λ same_units. stay (omega arith))))
  where
    membership : IsMembership S k type (spine_of type) m
    membership = membership-is S k type m is

last_trial-is : (S : Signature) (s : State) (left k : ℕ) → k ≢ 0 → (o : Option Equation) → slice_get s.equations k ≡ o → (rest : ℕ) → rest ≤ left
    → Comes (IsTurn S s left) (last_trial S s k o) rest
last_trial-is S s left k some None at rest le = none-comes (IsTurn S s left) rest
last_trial-is S s left k some (Some e) at rest le =
    reduced-within (Found (IsTurn S s left)) S false e.place.type rest _ (λ type end le' h.
    on_membership-is S s left k e type at some h.reduct (membership_of S k type) refl end (omega arith))

-- ---- all groups

pub group_trials-are : (S : Signature) (s : State) (left k rest : ℕ) → rest ≤ left → Comes (IsTurn S s left) (group_trials S s k) rest
group_trials-are S s left zero rest le = none-comes (IsTurn S s left) rest
group_trials-are S s left (suc k) rest le =
    or_else-comes (IsTurn S s left) (group_trial S s (suc k)) (group_trials S s k) rest
    (last_trial-is S s left (suc k) some (slice_get s.equations (suc k)) refl rest le) (λ end le'. group_trials-are S s left k end (omega arith))
  where
    some : suc k ≡ 0 → ⊥
    some e = omega arith
