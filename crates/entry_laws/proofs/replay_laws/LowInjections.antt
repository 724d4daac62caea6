-- A turn has tested the sides of its step that are read as constructors, and for an injectivity what is made of them.
use Rattle.std.proofs.Common.{◌≡◌, ◌≢◌, ℕ, zero, suc, ◌+◌, ◌-◌, ◌≤◌, ◌==◌, nat_le, Bool, true, false, cond, Option, Some, None, IfSome, Result, Ok, Err, IfOk, List, [], ◌∷◌, ◌++◌, length, take, slice_get, refl, sym, ap, ap₂, ◌∙◌, subst as transport, arith}
use Rattle.std.proofs.lemmas.Bool.{eqb-true}
use Rattle.std.proofs.lemmas.Bool.Decides.{nat_tests}
use Rattle.theory.specs.Terms.{Term, Var, Fam, height}
use Rattle.theory.specs.Signatures.{Signature, FamilyOf, IsEntryAt}
use Rattle.theory.specs.Spines.{spine_of}
use Rattle.theory.specs.Telescopes.{applied, variables}
use Rattle.core_terms.specs.Answers.{Spent, and_next, and_then, bounded_terms, is_low}
use Rattle.core_terms.specs.CaseTrees.{Step}
use Rattle.core_terms.specs.declared.case_tree.Rule.{Rule}
use Rattle.core_terms.specs.declared.case_tree.Rule.TheVariants.{Inject, Conflict, Cycle}
use Rattle.core_terms.specs.declared.stop.Stop.{Stop}
use Rattle.core_terms.specs.declared.stop.Stop.TheVariants.{Deep}
use Rattle.core_terms.proofs.Answers.{Answers, and_next-has}
use Rattle.kernel_reduce.specs.Comparison.{convertible_of}
use Rattle.kernel_reduce.specs.Laws.{IsHeadForm}
use Rattle.kernel_reduce.specs.Reduction.{answered, nesting, some_bounded, whnf_of}
use Rattle.kernel_reduce.specs.Tidying.{tidy_of}
use Rattle.kernel_reduce.proofs.ReductionLaws.{whnf-is_head_form}
use Rattle.tele_eq.specs.Items.{Item}
use Rattle.tele_eq.specs.TelescopicEquality.{equations}
use Rattle.unification.specs.Built.{Built, built_of, has_no_indices, is_fitting}
use Rattle.unification.specs.Constructors.{both_heads, conflict_step, constructor_trial, constructor_turn, heads, injection_step, on_constructors, right_head, same_constructor, where_fits, with_built, with_heads}
use Rattle.unification.specs.Cycles.{bounded_found, cycle_at, cycle_search, cycle_step, cycle_trial, is_acyclic, left_constructor, left_form, not_found, reduced_side, right_variable, search_in}
use Rattle.unification.specs.Deletions.{delete, deletion_step, deletion_trial, if_convertible}
use Rattle.unification.specs.Groups.{Membership, all_convertible, are_equations_of, group_trial, group_trials, group_turn, if_holds, last_trial, membership_of, on_membership}
use Rattle.unification.specs.Heights.{bounded_items, bounded_state, equations_made, injection_made, most_places}
use Rattle.unification.specs.Injecting.{lifted}
use Rattle.unification.specs.Records.{family_items}
use Rattle.unification.specs.Solutions.{left_step, right_step, side_solved, solution_trial, solve_side, solve_sides, turn_by, variable_in, with_variable}
use Rattle.unification.specs.Solving.{deleted_state}
use Rattle.unification.specs.States.{Equation, State, left_sides, right_sides, types_as_they_stand}
use Rattle.unification.specs.Sticking.{stuck_trial}
use Rattle.unification.specs.Strategy.{first_trials, trials, turn_of}
use Rattle.unification.specs.Turns.{Fails, Goes, Trial, Turn, does_not_apply, fails_at, goes_to, on_tidied, or_else, sticks_at, tidied, type_in, unless_found}
use Rattle.unification.specs.declared.why.Why.TheVariants.{NeedsK}
use Rattle.unification.proofs.Constructors.{built-is}
use Rattle.unification.proofs.Memberships.{IsMembership, membership-is}
use Rattle.unification.proofs.ScopedRecords.{length-family_items}
use Rattle.unification.proofs.SpentUnits.{any-answer}
use Rattle.problems.proofs.LowTerms.{low-height}
use Rattle.tree_translation.specs.Comparisons.{compared, compared_alone, compared_by, compared_in}
use Rattle.tree_translation.proofs.Comparing.{compared-group}
use Rattle.entry_laws.proofs.replay_laws.LowComparisons.{IsLowComparison, comparison_of}
use Rattle.entry_laws.proofs.replay_laws.MadeInjections.{compared-low, made-low, membership-whole}

-- the sides of an injectivity are low, and so is what is made of them
pub record IsLowInjection (S : Signature) (s : State) (step : Step) : Type 0 where
  pub left : height step.left ≤ 2000
  pub right : height step.right ≤ 2000
  pub comparison : IfSome (compared S s step) IsLowComparison

pub record HasLowSides (step : Step) : Type 0 where
  pub left : height step.left ≤ 2000
  pub right : height step.right ≤ 2000

abbrev pub IsLowBy : Signature → State → Step → Rule → Type 0
IsLowBy S s step (Inject n number) = IsLowInjection S s step
IsLowBy S s step (Conflict n c d) = HasLowSides step
IsLowBy S s step (Cycle x) = HasLowSides step
IsLowBy S s step rule = Unit {0}

abbrev pub IsLowTurn : Signature → State → Turn → Type 0
IsLowTurn S s (Goes step t) = IsLowBy S s step step.rule
IsLowTurn S s (Fails step u v) = IsLowBy S s step step.rule
IsLowTurn S s turn = Unit {0}

abbrev IsLowFound : Signature → State → Option Turn → Type 0
IsLowFound S s found = IfSome found (IsLowTurn S s)

-- so is what a trial comes to
abbrev Low : Signature → State → Trial → (left : ℕ) → Type 0
Low S s trial left = Answers (IsLowFound S s) (trial left)

-- ---- parts of trials

after-any : {A : Type 0} (S : Signature) (s : State) (first : Spent A) (go : A → ℕ → Spent (Option Turn))
    → ((a : A) (rest : ℕ) → Answers (IsLowFound S s) (go a rest)) → Answers (IsLowFound S s) (and_next first go)
after-any S s first go h = and_next-has (λ a. Unit {0}) (IsLowFound S s) first go (any-answer first.0) (λ a rest is. h a rest)

or_else-low : (S : Signature) (s : State) (first second : Trial) (left : ℕ) → Low S s first left → ((rest : ℕ) → Low S s second rest)
    → Low S s (or_else first second) left
or_else-low S s first second left h k =
    and_next-has (IsLowFound S s) (IsLowFound S s) (first left) (λ found rest. unless_found found second rest) h by
  where
    by : (found : Option Turn) (rest : ℕ) → IsLowFound S s found → Answers (IsLowFound S s) (unless_found found second rest)
    by (Some turn) rest is = is
    by None rest is = k rest

cond-low : (S : Signature) (s : State) (test : Bool) (one other : Trial) (left : ℕ) → (test ≡ true → Low S s one left) → Low S s other left
    → Low S s (cond test one other) left
cond-low S s true one other left h k = h refl
cond-low S s false one other left h k = k

goes_to-low : (S : Signature) (s : State) (step : Step) (made : Result State Stop) (left : ℕ)
    → ((t : State) → made ≡ Ok t → IsLowTurn S s (Goes step t)) → Low S s (goes_to step made) left
goes_to-low S s step (Ok t) left h = h t refl
goes_to-low S s step (Err e) left h = tt

on_tidied-low : (S : Signature) (s : State) (u v : Term) (go : Term → Term → Trial) (left : ℕ)
    → ((u' v' : Term) (rest : ℕ) → Low S s (go u' v') rest) → Low S s (on_tidied S u v go) left
on_tidied-low S s u v go left h = after-any S s (tidied S u v left) (λ sides rest. go sides.0 sides.1 rest) (λ sides rest. h sides.0 sides.1 rest)

fails_at-low : (S : Signature) (s : State) (step : Step) (u v : Term) (left : ℕ) → IsLowBy S s step step.rule → Low S s (fails_at S step u v) left
fails_at-low S s step u v left low = on_tidied-low S s u v _ left (λ u' v' rest. low)

-- ---- the head forms of both sides

-- a head form is low
whnf-low : (S : Signature) (t : Term) (left : ℕ) → Answers (λ u. height u ≤ 2000) (whnf_of S true left t)
whnf-low S t left = by (whnf_of S true left t).0 (whnf-is_head_form S true left t)
  where
    by : (r : Result Term Stop) → IfOk r (IsHeadForm S true t) → IfOk r (λ u. height u ≤ 2000)
    by (Ok u) h = h.low
    by (Err e) h = tt

-- both are low, and the left one is a constructor that meets the condition
record AreLowHeads (S : Signature) (fits : Built → Bool) (l r : Term) : Type 0 where
  pub left : height l ≤ 2000
  pub right : height r ≤ 2000
  pub fitting : IfSome (built_of S l) (λ b. fits b ≡ true)

abbrev AreFound : Signature → (Built → Bool) → Option (Term × Term) → Type 0
AreFound S fits found = IfSome found (λ sides. AreLowHeads S fits sides.0 sides.1)

both-low : (S : Signature) (fits : Built → Bool) (l r : Term) (b : Built) (o : Option Built) → height l ≤ 2000 → height r ≤ 2000 → built_of S l ≡ Some b
    → fits b ≡ true → AreFound S fits (both_heads l r o)
both-low S fits l r b None hl hr lb fit = tt
both-low S fits l r b (Some d) hl hr lb fit = record {
  left = hl;
  right = hr;
  fitting = transport (λ o. IfSome o (λ b. fits b ≡ true)) (sym lb) fit;
}

right_head-low : (S : Signature) (fits : Built → Bool) (l v : Term) (o : Option Built) (left : ℕ) → height l ≤ 2000 → built_of S l ≡ o
    → Answers (AreFound S fits) (right_head S l v (where_fits fits o) left)
right_head-low S fits l v None left hl lb = tt
right_head-low S fits l v (Some b) left hl lb = by (fits b) refl
  where
    by : (t : Bool) → fits b ≡ t → Answers (AreFound S fits) (right_head S l v (cond t (Some b) None) left)
    by true fit =
        and_next-has (λ r. height r ≤ 2000) (AreFound S fits) (whnf_of S true left v)
        (λ r rest. answered (Ok (both_heads l r (where_fits (λ d. d.n == b.n) (built_of S r)))) rest) (whnf-low S v left)
        (λ r rest hr. both-low S fits l r b (where_fits (λ d. d.n == b.n) (built_of S r)) hl hr lb fit)
    by false fit = tt

heads-low : (S : Signature) (fits : Built → Bool) (u v : Term) (left : ℕ) → Answers (AreFound S fits) (heads S fits u v left)
heads-low S fits u v left =
    and_next-has (λ l. height l ≤ 2000) (AreFound S fits) (whnf_of S true left u)
    (λ l rest. right_head S l v (where_fits fits (built_of S l)) rest) (whnf-low S u left)
    (λ l rest hl. right_head-low S fits l v (built_of S l) rest hl refl)

-- the constructors of low head forms
record AreLowSides (S : Signature) (fits : Built → Bool) (l : Term) (b : Built) (r : Term) (d : Built) : Type 0 where
  pub left : height l ≤ 2000
  pub right : height r ≤ 2000
  pub left_built : built_of S l ≡ Some b
  pub right_built : built_of S r ≡ Some d
  pub fitting : fits b ≡ true

with_built-low : (S : Signature) (s : State) (fits : Built → Bool) (go : (l : Term) (b : Built) (r : Term) (d : Built) → Trial) (l r : Term)
    (o o' : Option Built) (left : ℕ) → AreLowHeads S fits l r → built_of S l ≡ o → built_of S r ≡ o'
    → ((b d : Built) → AreLowSides S fits l b r d → Low S s (go l b r d) left) → Low S s (with_built go l r o o') left
with_built-low S s fits go l r (Some b) (Some d) left low lb rd h =
    h b d (record {
      left = low.left;
      right = low.right;
      left_built = lb;
      right_built = rd;
      fitting = transport (λ o. IfSome o (λ b. fits b ≡ true)) lb low.fitting;
    })
with_built-low S s fits go l r (Some b) None left low lb rd h = tt
with_built-low S s fits go l r None (Some d) left low lb rd h = tt
with_built-low S s fits go l r None None left low lb rd h = tt

on_constructors-low : (S : Signature) (s : State) (fits : Built → Bool) (u v : Term) (go : (l : Term) (b : Built) (r : Term) (d : Built) → Trial)
    (left : ℕ) → ((l : Term) (b : Built) (r : Term) (d : Built) (rest : ℕ) → AreLowSides S fits l b r d → Low S s (go l b r d) rest)
    → Low S s (on_constructors S fits u v go) left
on_constructors-low S s fits u v go left h =
    and_next-has (AreFound S fits) (IsLowFound S s) (heads S fits u v left) (λ found rest. with_heads S go found rest) (heads-low S fits u v left) by
  where
    by : (found : Option (Term × Term)) (rest : ℕ) → AreFound S fits found → Low S s (with_heads S go found) rest
    by None rest is = tt
    by (Some sides) rest is =
        with_built-low S s fits go sides.0 sides.1 (built_of S sides.0) (built_of S sides.1) rest is refl refl
        (λ b d low. h sides.0 b sides.1 d rest low)

-- ---- one equation

alone-low : (S : Signature) (s : State) (e : Equation) (fits : Built → Bool) (l : Term) (b : Built) (r : Term) (d : Built) (t : State)
    → AreLowSides S fits l b r d → has_no_indices b.family ≡ true
    → injection_made s 1 b.n b.number b.family b.constructor b.parameters b.arguments d.arguments ≡ Ok t
    → IsLowInjection S s (injection_step 1 (type_in e.type) l r b)
alone-low S s e fits l b r d t low plain made = record {
  left = low.left;
  right = low.right;
  comparison = transport (λ o. IfSome o IsLowComparison) (sym there) parts;
}
  where
    step : Step
    step = injection_step 1 (type_in e.type) l r b

    there : compared S s (injection_step 1 (type_in e.type) l r b) ≡ Some (compared_alone b d)
    there = ap₂ (compared_in s step) low.left_built low.right_built

    parts : IsLowComparison (compared_alone b d)
    parts =
        let none : length b.family.indices ≡ 0 = eqb-true (length b.family.indices) 0 plain in
        compared-low S l b r d b.family b.parameters (compared_alone b d).indices low.left_built low.right_built low.left low.right
        (built-is S l b low.left_built).built.parameters (omega arith)
        (made-low s t 1 b.n b.number b.family b.constructor b.parameters b.arguments d.arguments made)

constructor_trial-low : (S : Signature) (s : State) (e : Equation) (left : ℕ) → Low S s (constructor_trial S s e) left
constructor_trial-low S s e left =
    on_constructors-low S s (λ b. is_fitting b.family) e.left e.right (constructor_turn S s e) left (λ l b r d rest low.
    cond-low S s (b.number == d.number) (same_constructor s e l r b d) (fails_at S (conflict_step 1 (type_in e.type) l r b d) e.left e.right) rest
    (λ same. cond-low S s (has_no_indices b.family)
    (goes_to (injection_step 1 (type_in e.type) l r b)
    (injection_made s 1 b.n b.number b.family b.constructor b.parameters b.arguments d.arguments))
    does_not_apply rest
    (λ plain. goes_to-low S s (injection_step 1 (type_in e.type) l r b)
    (injection_made s 1 b.n b.number b.family b.constructor b.parameters b.arguments d.arguments) rest
    (λ t made. alone-low S s e (λ b. is_fitting b.family) l b r d t low plain made))
    tt)
    (fails_at-low S s (conflict_step 1 (type_in e.type) l r b d) e.left e.right rest (record { left = low.left; right = low.right })))

-- ---- groups

group-low : (S : Signature) (s : State) (k : ℕ) (type : Term) (m : Membership) (l : Term) (b : Built) (r : Term) (d : Built) (t : State) → k ≢ 0
    → membership_of S k type ≡ Some m → AreLowSides S (λ b. b.n == m.n) l b r d → length m.family.indices + 1 ≤ 1000
    → injection_made s (k + 1) b.n b.number m.family b.constructor m.parameters b.arguments d.arguments ≡ Ok t
    → IsLowInjection S s (injection_step (k + 1) type l r b)
group-low S s k type m l b r d t some is low few made = record {
  left = low.left;
  right = low.right;
  comparison = transport (λ o. IfSome o IsLowComparison) (sym there) parts;
}
  where
    step : Step
    step = injection_step (k + 1) type l r b

    family : b.n ≡ m.n
    family = eqb-true b.n m.n low.fitting

    member : IsMembership S k type (spine_of type) m
    member = membership-is S k type m is

    compares : compared_by s k type b d ≡ comparison_of b.n m.family m.parameters b d (take k (right_sides s.equations))
    compares =
        compared-group S s k m.family m.parameters type b d some (transport (λ n. IsEntryAt S n (FamilyOf m.family)) (sym family) member.family)
        (built-is S l b low.left_built).built
        (transport (λ n. type ≡ applied (Fam n) (lifted k m.parameters ++ variables k)) (sym family) member.form)

    there : compared S s (injection_step (k + 1) type l r b) ≡ Some (comparison_of b.n m.family m.parameters b d (take k (right_sides s.equations)))
    there =
        let e : k + 1 - 1 ≡ k = omega arith in
        ap₂ (compared_in s step) low.left_built low.right_built
        ∙ (ap (λ count. Some (compared_by s count type b d)) e ∙ ap Some compares)

    parts : IsLowComparison (comparison_of b.n m.family m.parameters b d (take k (right_sides s.equations)))
    parts =
        compared-low S l b r d m.family m.parameters (take k (right_sides s.equations)) low.left_built low.right_built low.left low.right
        (membership-whole S k type m is) few
        (made-low s t (k + 1) b.n b.number m.family b.constructor m.parameters b.arguments d.arguments made)

group_turn-low : (S : Signature) (s : State) (k : ℕ) (e : Equation) (m : Membership) (type l : Term) (b : Built) (r : Term) (d : Built) (left : ℕ) → k ≢ 0
    → membership_of S k type ≡ Some m → AreLowSides S (λ b. b.n == m.n) l b r d → length m.family.indices + 1 ≤ 1000
    → Low S s (group_turn S s k e m type l b r d) left
group_turn-low S s k e m type l b r d left some is low few =
    cond-low S s (b.number == d.number)
    (goes_to (injection_step (k + 1) type l r b)
    (injection_made s (k + 1) b.n b.number m.family b.constructor m.parameters b.arguments d.arguments))
    (fails_at S (conflict_step (k + 1) type l r b d) e.left e.right) left
    (λ same. goes_to-low S s (injection_step (k + 1) type l r b)
    (injection_made s (k + 1) b.n b.number m.family b.constructor m.parameters b.arguments d.arguments) left
    (λ t made. group-low S s k type m l b r d t some is low few made))
    (fails_at-low S s (conflict_step (k + 1) type l r b d) e.left e.right left (record { left = low.left; right = low.right }))

if_holds-low : (S : Signature) (s : State) (holds : Bool) (go : Trial) (left : ℕ) → Low S s go left → Low S s (if_holds holds go) left
if_holds-low S s true go left h = h
if_holds-low S s false go left h = tt

keep : {A : Type 0} (P : Type 0) (r : Result A Stop) → P → IfOk r (λ a. P)
keep P (Ok a) h = h
keep P (Err e) h = tt

few-made : (X : List Item) (us vs : List Term) → IfOk (equations_made X us vs) (λ types. length X ≤ 1000)
few-made X us vs = by (nat_le (length X) most_places) refl
  where
    rest : Result (List Term) Stop
    rest = and_then (bounded_items X) (λ items. bounded_terms (equations items us vs))

    by : (b : Bool) → nat_le (length X) most_places ≡ b
        → IfOk {E = Stop} (cond b (and_then (bounded_items X) (λ items. bounded_terms (equations items us vs))) (Err Deep)) (λ types. length X ≤ 1000)
    by true e = keep (length X ≤ 1000) rest (grind (arith, nat_tests))
    by false e = tt

are_equations-low : (S : Signature) (m : Membership) (group : List Equation) (left : ℕ)
    → Answers (λ holds. length m.family.indices + 1 ≤ 1000) (are_equations_of S m group left)
are_equations-low S m group left =
    let X = family_items m.n m.family m.parameters in
    let count : length X ≡ length m.family.indices + 1 = length-family_items m.n m.family m.parameters in
    and_next-has (λ types. length X ≤ 1000) (λ holds. length m.family.indices + 1 ≤ 1000)
    (answered (equations_made X (left_sides group) (right_sides group)) left)
    (λ types rest. all_convertible S (types_as_they_stand group) types rest) (few-made X (left_sides group) (right_sides group))
    (λ types rest few. keep (length m.family.indices + 1 ≤ 1000) (all_convertible S (types_as_they_stand group) types rest).0 (omega arith))

on_membership-low : (S : Signature) (s : State) (k : ℕ) (e : Equation) (type : Term) (o : Option Membership) (left : ℕ) → k ≢ 0
    → membership_of S k type ≡ o → Low S s (on_membership S s k e type o) left
on_membership-low S s k e type None left some is = tt
on_membership-low S s k e type (Some m) left some is =
    on_constructors-low S s (λ b. b.n == m.n) e.left e.right _ left (λ l b r d rest low.
    and_next-has (λ holds. length m.family.indices + 1 ≤ 1000) (IsLowFound S s) (are_equations_of S m (take (k + 1) s.equations) rest)
    (λ holds end. if_holds holds (group_turn S s k e m type l b r d) end) (are_equations-low S m (take (k + 1) s.equations) rest)
    (λ holds end few. if_holds-low S s holds (group_turn S s k e m type l b r d) end (group_turn-low S s k e m type l b r d end some is low few)))

last_trial-low : (S : Signature) (s : State) (k : ℕ) (found : Option Equation) (left : ℕ) → k ≢ 0 → Low S s (last_trial S s k found) left
last_trial-low S s k None left some = tt
last_trial-low S s k (Some e) left some =
    after-any S s (tidy_of S left e.place.type) _ (λ type rest. on_membership-low S s k e type (membership_of S k type) rest some refl)

group_trials-low : (S : Signature) (s : State) (k left : ℕ) → Low S s (group_trials S s k) left
group_trials-low S s zero left = tt
group_trials-low S s (suc k) left =
    or_else-low S s (group_trial S s (suc k)) (group_trials S s k) left
    (last_trial-low S s (suc k) (slice_get s.equations (suc k)) left (λ none. omega arith))
    (λ rest. group_trials-low S s k rest)

-- ---- solutions

solve_side-low : (S : Signature) (s : State) (e : Equation) (A other : Term) (step : ℕ → Term → Step) (found : Option ℕ) (left : ℕ)
    → ((x : ℕ) (u : Term) → IsLowBy S s (step x u) (step x u).rule) → Low S s (solve_side S s e A other step found) left
solve_side-low S s e A other step None left h = tt
solve_side-low S s e A other step (Some x) left h =
    after-any S s (side_solved S s e x A other left) (λ pair rest. answered (Ok (turn_by (step x) pair)) rest) by
  where
    by : (pair : Option (Term × State)) (rest : ℕ) → IsLowFound S s (turn_by (step x) pair)
    by None rest = tt
    by (Some pair) rest = h x pair.0

solve_sides-low : (S : Signature) (s : State) (e : Equation) (A u v : Term) (left : ℕ) → Low S s (solve_sides S s e A u v) left
solve_sides-low S s e A u v left =
    or_else-low S s (solve_side S s e A u (right_step A v) (variable_in v)) (solve_side S s e A v (left_step A u) (variable_in u)) left
    (solve_side-low S s e A u (right_step A v) (variable_in v) left (λ x w. tt))
    (λ rest. solve_side-low S s e A v (left_step A u) (variable_in u) rest (λ x w. tt))

with_variable-low : (S : Signature) (s : State) (e : Equation) (u v : Term) (o o' : Option ℕ) (left : ℕ) → Low S s (with_variable S s e u v o o') left
with_variable-low S s e u v o o' left = by o o'
  where
    goes : Answers (IsLowFound S s) (and_next (tidy_of S left (type_in e.type)) (λ A rest. solve_sides S s e A u v rest))
    goes = after-any S s (tidy_of S left (type_in e.type)) (λ A rest. solve_sides S s e A u v rest) (λ A rest. solve_sides-low S s e A u v rest)

    by : (o o' : Option ℕ) → Low S s (with_variable S s e u v o o') left
    by None None = tt
    by None (Some y) = goes
    by (Some x) None = goes
    by (Some x) (Some y) = goes

solution_trial-low : (S : Signature) (s : State) (e : Equation) (left : ℕ) → Low S s (solution_trial S s e) left
solution_trial-low S s e left =
    on_tidied-low S s e.left e.right _ left (λ u v rest. with_variable-low S s e u v (variable_in u) (variable_in v) rest)

-- ---- cycles, deletions, and where no rule goes on

bounded-low : (t : Term) → IfOk (some_bounded t) (λ found. IfSome found (λ u. height u ≤ 2000))
bounded-low t = by (is_low t) refl
  where
    by : (b : Bool) → is_low t ≡ b → IfOk {E = Stop} (cond b (Ok (Some t)) (Err Deep)) (λ found. IfSome found (λ u. height u ≤ 2000))
    by true low = low-height t low
    by false high = tt

bounded_found-low : (found : Option Term) → IfOk (bounded_found found) (λ found. IfSome found (λ u. height u ≤ 2000))
bounded_found-low None = tt
bounded_found-low (Some t) = bounded-low t

-- the side in which the variable is found
reduced_side-low : (S : Signature) (x : ℕ) (t : Term) (o : Option Built) (left : ℕ)
    → Answers (λ found. IfSome found (λ u. height u ≤ 2000)) (reduced_side S x t o left)
reduced_side-low S x t None left = tt
reduced_side-low S x t (Some b) left = by (is_acyclic b)
  where
    by : (test : Bool) → Answers (λ found. IfSome found (λ u. height u ≤ 2000))
        (cond test (and_next (search_in S b.n x t left) (λ found rest. answered (bounded_found found) rest)) (not_found left))
    by true =
        and_next-has (λ a. Unit {0}) (λ found. IfSome found (λ u. height u ≤ 2000)) (search_in S b.n x t left)
        (λ found rest. answered (bounded_found found) rest) (any-answer (search_in S b.n x t left).0) (λ found rest any. bounded_found-low found)
    by false = tt

cycle_search-low : (S : Signature) (s : State) (e : Equation) (x : ℕ) (step : Term → Step) (t : Term) (left : ℕ)
    → ((w : Term) → height w ≤ 2000 → IsLowBy S s (step w) (step w).rule) → Low S s (cycle_search S e x step t) left
cycle_search-low S s e x step t left h =
    and_next-has (λ found. IfSome found (λ u. height u ≤ 2000)) (IsLowFound S s) (reduced_side S x t (built_of S t) left)
    (λ found rest. cycle_at S e step found rest) (reduced_side-low S x t (built_of S t) left) by
  where
    by : (found : Option Term) (rest : ℕ) → IfSome found (λ u. height u ≤ 2000) → Low S s (cycle_at S e step found) rest
    by None rest low = tt
    by (Some w) rest low = fails_at-low S s (step w) e.left e.right rest (h w low)

right_variable-low : (S : Signature) (s : State) (e : Equation) (l : Term) (found : Option ℕ) (left : ℕ) → Low S s (right_variable S e l found) left
right_variable-low S s e l None left = tt
right_variable-low S s e l (Some x) left =
    cycle_search-low S s e x (λ u. cycle_step e x u (Var x)) l left (λ u low. record { left = low; right = omega arith })

left_constructor-low : (S : Signature) (s : State) (e : Equation) (l : Term) (found : Option Built) (left : ℕ) → Low S s (left_constructor S e l found) left
left_constructor-low S s e l None left = tt
left_constructor-low S s e l (Some b) left = by (is_acyclic b)
  where
    goes : Answers (IsLowFound S s) (and_next (whnf_of S true left e.right) (λ r rest. right_variable S e l (variable_in r) rest))
    goes =
        after-any S s (whnf_of S true left e.right) (λ r rest. right_variable S e l (variable_in r) rest)
        (λ r rest. right_variable-low S s e l (variable_in r) rest)

    by : (test : Bool)
        → Answers (IsLowFound S s) (cond test (and_next (whnf_of S true left e.right) (λ r rest. right_variable S e l (variable_in r) rest)) (does_not_apply left))
    by true = goes
    by false = tt

left_form-low : (S : Signature) (s : State) (e : Equation) (l : Term) (found : Option ℕ) (left : ℕ) → Low S s (left_form S e l found) left
left_form-low S s e l (Some x) left =
    after-any S s (whnf_of S true left e.right) (λ r rest. cycle_search S e x (λ v. cycle_step e x (Var x) v) r rest)
    (λ r rest. cycle_search-low S s e x (λ v. cycle_step e x (Var x) v) r rest (λ v low. record { left = omega arith; right = low }))
left_form-low S s e l None left = left_constructor-low S s e l (built_of S l) left

cycle_trial-low : (S : Signature) (s : State) (e : Equation) (left : ℕ) → Low S s (cycle_trial S e) left
cycle_trial-low S s e left =
    after-any S s (whnf_of S true left e.left) (λ l rest. left_form S e l (variable_in l) rest) (λ l rest. left_form-low S s e l (variable_in l) rest)

delete-low : (S : Signature) (s : State) (e : Equation) (left : ℕ) → Low S s (delete S s e) left
delete-low S s e left =
    after-any S s (tidy_of S left (type_in e.type)) _ (λ A rest.
    on_tidied-low S s e.left e.right _ rest (λ u v end.
    goes_to-low S s (deletion_step A u v) (bounded_state (deleted_state s e.place.level A u)) end (λ t made. tt)))

if_convertible-low : (S : Signature) (s : State) (e : Equation) (holds : Bool) (left : ℕ) → Low S s (if_convertible S s e holds) left
if_convertible-low S s e true left =
    cond-low S s S.has_k (delete S s e) (sticks_at S NeedsK e.left e.right) left (λ k. delete-low S s e left)
    (on_tidied-low S s e.left e.right _ left (λ u v rest. tt))
if_convertible-low S s e false left = tt

deletion_trial-low : (S : Signature) (s : State) (e : Equation) (left : ℕ) → Low S s (deletion_trial S s e) left
deletion_trial-low S s e left =
    after-any S s (convertible_of S nesting e.left e.right left) (λ holds rest. if_convertible S s e holds rest)
    (λ holds rest. if_convertible-low S s e holds rest)

stuck_trial-low : (S : Signature) (s : State) (e : Equation) (left : ℕ) → Low S s (stuck_trial S e) left
stuck_trial-low S s e left = on_tidied-low S s e.left e.right _ left (λ u v rest. tt)

-- ---- turns

first_trials-low : (S : Signature) (s : State) (e : Equation) (left : ℕ) → Low S s (first_trials S s e) left
first_trials-low S s e left =
    or_else-low S s (solution_trial S s e) _ left (solution_trial-low S s e left) (λ a.
    or_else-low S s (constructor_trial S s e) _ a (constructor_trial-low S s e a) (λ b.
    or_else-low S s (cycle_trial S e) _ b (cycle_trial-low S s e b) (λ c.
    or_else-low S s (deletion_trial S s e) (stuck_trial S e) c (deletion_trial-low S s e c) (λ d. stuck_trial-low S s e d))))

trials-low : (S : Signature) (s : State) (es : List Equation) (left : ℕ) → Low S s (trials S s es) left
trials-low S s [] left = tt
trials-low S s (e ∷ others) left =
    or_else-low S s (group_trials S s (length others)) (first_trials S s e) left (group_trials-low S s (length others) left)
    (λ rest. first_trials-low S s e rest)

-- the step of a turn that is an end
pub last-low : (S : Signature) (s : State) (left rest : ℕ) (step : Step) (u v : Term) → turn_of S s left ≡ answered (Ok (Some (Fails step u v))) rest
    → IsLowBy S s step step.rule
last-low S s left rest step u v e = transport (Answers (IsLowFound S s)) e (trials-low S s s.equations left)

-- the step of a turn that goes on
pub step-low : (S : Signature) (s t : State) (left rest : ℕ) (step : Step) → turn_of S s left ≡ answered (Ok (Some (Goes step t))) rest
    → IsLowBy S s step step.rule
step-low S s t left rest step e = transport (Answers (IsLowFound S s)) e (trials-low S s s.equations left)
