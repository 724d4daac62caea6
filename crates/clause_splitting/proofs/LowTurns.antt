-- A turn that solves a variable has a low term for it, and leads to a low context.
use Rattle.std.proofs.Common.{◌≡◌, ℕ, zero, suc, ◌+◌, ◌-◌, ◌==◌, ◌≤◌, Bool, true, false, ◌&&◌, cond, Option, Some, None, IfSome, Result, Ok, Err, IfOk, List, [], ◌∷◌, length, take, slice_get, refl}
use Rattle.theory.specs.Terms.{Term, Var, height}
use Rattle.theory.specs.Signatures.{Signature}
use Rattle.core_terms.specs.Answers.{Spent, and_next, are_low}
use Rattle.core_terms.specs.Bounds.{most_height}
use Rattle.core_terms.specs.CaseTrees.{Step}
use Rattle.core_terms.specs.declared.case_tree.Rule.{Rule}
use Rattle.core_terms.specs.declared.case_tree.Rule.TheVariants.{SolveRight, SolveLeft}
use Rattle.core_terms.specs.declared.stop.Stop.{Stop}
use Rattle.core_terms.specs.declared.stop.Stop.TheVariants.{Deep}
use Rattle.core_terms.proofs.Answers.{Answers, and_then-has, and_next-has}
use Rattle.kernel_reduce.specs.Laws.{IsHeadForm}
use Rattle.kernel_reduce.specs.Comparison.{convertible_of}
use Rattle.kernel_reduce.specs.Reduction.{answered, nesting, normal_of, whnf_of}
use Rattle.kernel_reduce.specs.Tidying.{tidy_of}
use Rattle.kernel_reduce.proofs.ReductionLaws.{whnf-is_head_form, normal-converts}
use Rattle.theory.specs.Conversion.{Converts}
use Rattle.unification.specs.Built.{Built, built_of, has_no_indices}
use Rattle.unification.specs.Constructors.{heads, with_built, with_heads, on_constructors, conflict_step, injection_step, constructor_turn, constructor_trial}
use Rattle.unification.specs.Cycles.{is_acyclic, reduced_side, cycle_at, cycle_search, cycle_step, right_variable, left_constructor, left_form, cycle_trial}
use Rattle.unification.specs.Deletions.{delete, deletion_step, if_convertible, deletion_trial}
use Rattle.unification.specs.Groups.{Membership, membership_of, are_equations_of, group_turn, if_holds, on_membership, last_trial, group_trial, group_trials}
use Rattle.unification.specs.Heights.{are_low_equations, bounded_state, injection_made}
use Rattle.unification.specs.Solutions.{variable_in, is_free_of, if_free, solution_from, solves, state_solved, side_solved, turn_by, solve_side, right_step, left_step, solve_sides, with_variable, solution_trial}
use Rattle.unification.specs.Solving.{solved_state, deleted_state}
use Rattle.unification.specs.States.{Equation, State}
use Rattle.unification.specs.Sticking.{stuck_trial}
use Rattle.unification.specs.Strategy.{first_trials, trials, turn_of}
use Rattle.unification.specs.Turns.{Trial, Turn, Goes, does_not_apply, goes_to, tidied, on_tidied, fails_at, sticks_at, unless_found, or_else, type_in}
use Rattle.unification.specs.declared.why.Why.TheVariants.{NeedsK}
use Rattle.unification.proofs.SpentUnits.{any-answer}

-- the term that a rule puts for a variable is low, and the context after it
abbrev pub IsLowBehind : Rule → (left right : Term) → State → Type 0
IsLowBehind (SolveRight x) left right t = (height left ≤ most_height) × (are_low t.context ≡ true)
IsLowBehind (SolveLeft x) left right t = (height right ≤ most_height) × (are_low t.context ≡ true)
IsLowBehind rule left right t = Unit {0}

abbrev pub IsLowTurn : Turn → Type 0
IsLowTurn (Goes step t) = IsLowBehind step.rule step.left step.right t
IsLowTurn turn = Unit {0}

abbrev IsLowFound : Option Turn → Type 0
IsLowFound found = IfSome found IsLowTurn

-- so is what a trial comes to
abbrev Low : Trial → (left : ℕ) → Type 0
Low trial left = Answers IsLowFound (trial left)

-- ---- parts of trials

after-any : {A : Type 0} (first : Spent A) (go : A → ℕ → Spent (Option Turn)) → ((a : A) (rest : ℕ) → Answers IsLowFound (go a rest))
    → Answers IsLowFound (and_next first go)
after-any first go h = and_next-has (λ a. Unit {0}) IsLowFound first go (any-answer first.0) (λ a rest is. h a rest)

or_else-low : (first second : Trial) (left : ℕ) → Low first left → ((rest : ℕ) → Low second rest) → Low (or_else first second) left
or_else-low first second left h k = and_next-has IsLowFound IsLowFound (first left) (λ found rest. unless_found found second rest) h by
  where
    by : (found : Option Turn) (rest : ℕ) → IsLowFound found → Answers IsLowFound (unless_found found second rest)
    by (Some turn) rest is = is
    by None rest is = k rest

cond-low : (test : Bool) (one other : Trial) (left : ℕ) → Low one left → Low other left → Low (cond test one other) left
cond-low true one other left h k = h
cond-low false one other left h k = k

goes_to-low : (step : Step) (made : Result State Stop) (left : ℕ) → IfOk made (λ t. IsLowTurn (Goes step t)) → Low (goes_to step made) left
goes_to-low step (Ok t) left h = h
goes_to-low step (Err e) left h = tt

-- a head form is low
tidy-low : (S : Signature) (t : Term) (left : ℕ) → Answers (λ u. height u ≤ most_height) (tidy_of S left t)
tidy-low S t left = by (tidy_of S left t).0 (whnf-is_head_form S false left t)
  where
    by : (r : Result Term Stop) → IfOk r (IsHeadForm S false t) → IfOk r (λ u. height u ≤ most_height)
    by (Ok u) h = h.low
    by (Err e) h = tt

normal-low : (S : Signature) (t : Term) (left : ℕ) → Answers (λ u. height u ≤ most_height) (normal_of S true nesting t left)
normal-low S t left = by (normal_of S true nesting t left).0 (normal-converts S true nesting t left)
  where
    by : (r : Result Term Stop) → IfOk r (λ u. Converts S t u × (height u ≤ most_height)) → IfOk r (λ u. height u ≤ most_height)
    by (Ok u) h = h.1
    by (Err e) h = tt

abbrev AreLowSides : Term × Term → Type 0
AreLowSides sides = (height sides.0 ≤ most_height) × (height sides.1 ≤ most_height)

tidied-low : (S : Signature) (u v : Term) (left : ℕ) → Answers AreLowSides (tidied S u v left)
tidied-low S u v left =
    and_next-has (λ u. height u ≤ most_height) AreLowSides (tidy_of S left u)
    (λ u' rest. and_next (tidy_of S rest v) (λ v' end. answered (Ok (u', v')) end)) (tidy-low S u left) (λ u' rest h.
    and_next-has (λ v. height v ≤ most_height) AreLowSides (tidy_of S rest v) (λ v' end. answered (Ok (u', v')) end) (tidy-low S v rest) (λ v' end k. (h, k)))

on_tidied-low : (S : Signature) (u v : Term) (go : Term → Term → Trial) (left : ℕ)
    → ((u' v' : Term) (rest : ℕ) → height u' ≤ most_height → height v' ≤ most_height → Low (go u' v') rest) → Low (on_tidied S u v go) left
on_tidied-low S u v go left h =
    and_next-has AreLowSides IsLowFound (tidied S u v left) (λ sides rest. go sides.0 sides.1 rest) (tidied-low S u v left)
    (λ sides rest k. h sides.0 sides.1 rest k.0 k.1)

fails_at-low : (S : Signature) (step : Step) (u v : Term) (left : ℕ) → Low (fails_at S step u v) left
fails_at-low S step u v left = on_tidied-low S u v _ left (λ u' v' rest h k. tt)

-- ---- constructors

on_constructors-low : (S : Signature) (fits : Built → Bool) (u v : Term) (go : (l : Term) (b : Built) (r : Term) (d : Built) → Trial) (left : ℕ)
    → ((l : Term) (b : Built) (r : Term) (d : Built) (rest : ℕ) → Low (go l b r d) rest) → Low (on_constructors S fits u v go) left
on_constructors-low S fits u v go left h = after-any (heads S fits u v left) (λ found rest. with_heads S go found rest) by
  where
    both : (l r : Term) (o o' : Option Built) (rest : ℕ) → Low (with_built go l r o o') rest
    both l r (Some b) (Some d) rest = h l b r d rest
    both l r (Some b) None rest = tt
    both l r None (Some d) rest = tt
    both l r None None rest = tt

    by : (found : Option (Term × Term)) (rest : ℕ) → Low (with_heads S go found) rest
    by None rest = tt
    by (Some sides) rest = both sides.0 sides.1 (built_of S sides.0) (built_of S sides.1) rest

constructor_trial-low : (S : Signature) (s : State) (e : Equation) (left : ℕ) → Low (constructor_trial S s e) left
constructor_trial-low S s e left =
    on_constructors-low S _ e.left e.right (constructor_turn S s e) left (λ l b r d rest.
    cond-low (b.number == d.number) _ _ rest
    (cond-low (has_no_indices b.family) _ _ rest
    (goes_to-low (injection_step 1 (type_in e.type) l r b)
    (injection_made s 1 b.n b.number b.family b.constructor b.parameters b.arguments d.arguments) rest (any-answer _)) tt)
    (fails_at-low S (conflict_step 1 (type_in e.type) l r b d) e.left e.right rest))

-- ---- groups

group_turn-low : (S : Signature) (s : State) (k : ℕ) (e : Equation) (m : Membership) (type l : Term) (b : Built) (r : Term) (d : Built) (left : ℕ)
    → Low (group_turn S s k e m type l b r d) left
group_turn-low S s k e m type l b r d left =
    cond-low (b.number == d.number) _ _ left
    (goes_to-low (injection_step (k + 1) type l r b)
    (injection_made s (k + 1) b.n b.number m.family b.constructor m.parameters b.arguments d.arguments) left (any-answer _))
    (fails_at-low S (conflict_step (k + 1) type l r b d) e.left e.right left)

if_holds-low : (holds : Bool) (go : Trial) (left : ℕ) → Low go left → Low (if_holds holds go) left
if_holds-low true go left h = h
if_holds-low false go left h = tt

on_membership-low : (S : Signature) (s : State) (k : ℕ) (e : Equation) (type : Term) (found : Option Membership) (left : ℕ)
    → Low (on_membership S s k e type found) left
on_membership-low S s k e type None left = tt
on_membership-low S s k e type (Some m) left =
    on_constructors-low S (λ b. b.n == m.n) e.left e.right _ left (λ l b r d rest.
    after-any (are_equations_of S m (take (k + 1) s.equations) rest) _ (λ holds end.
    if_holds-low holds (group_turn S s k e m type l b r d) end (group_turn-low S s k e m type l b r d end)))

last_trial-low : (S : Signature) (s : State) (k : ℕ) (found : Option Equation) (left : ℕ) → Low (last_trial S s k found) left
last_trial-low S s k None left = tt
last_trial-low S s k (Some e) left =
    after-any (tidy_of S left e.place.type) _ (λ type rest. on_membership-low S s k e type (membership_of S k type) rest)

group_trials-low : (S : Signature) (s : State) (k left : ℕ) → Low (group_trials S s k) left
group_trials-low S s zero left = tt
group_trials-low S s (suc k) left =
    or_else-low (group_trial S s (suc k)) (group_trials S s k) left (last_trial-low S s (suc k) (slice_get s.equations (suc k)) left)
    (λ rest. group_trials-low S s k rest)

-- ---- solutions

abbrev IsLowTerm : Option Term → Type 0
IsLowTerm found = IfSome found (λ u. height u ≤ most_height)

solution_from-low : (S : Signature) (s : State) (x : ℕ) (u : Term) (left : ℕ) → height u ≤ most_height → Answers IsLowTerm (solution_from S s x u left)
solution_from-low S s x u left low = by (is_free_of s x u)
  where
    free : (v : Term) (b : Bool) → height v ≤ most_height → IsLowTerm (cond b (Some v) None)
    free v true h = h
    free v false h = tt

    by : (b : Bool) → Answers IsLowTerm (cond b (answered (Ok (Some u)) left) (and_next (normal_of S true nesting u left) (λ v rest. answered (Ok (if_free s x v)) rest)))
    by true = low
    by false =
        and_next-has (λ v. height v ≤ most_height) IsLowTerm (normal_of S true nesting u left) (λ v rest. answered (Ok (if_free s x v)) rest)
        (normal-low S u left) (λ v rest h. free v (is_free_of s x v) h)

solves-low : (S : Signature) (s : State) (x : ℕ) (A u : Term) (left : ℕ) → height u ≤ most_height → Answers IsLowTerm (solves S s x A u left)
solves-low S s x A u left low = by (is_free_of s x A)
  where
    by : (b : Bool) → Answers IsLowTerm (cond b (solution_from S s x u left) (answered (Ok None) left))
    by true = solution_from-low S s x u left low
    by false = tt

-- a term that is put, with the state after it
abbrev IsLowPair : Option (Term × State) → Type 0
IsLowPair found = IfSome found (λ pair. (height pair.0 ≤ most_height) × (are_low pair.1.context ≡ true))

pub bounded-context : (s : State) → IfOk (bounded_state s) (λ t. are_low t.context ≡ true)
bounded-context s = by (are_low s.context) refl (are_low_equations s.equations && are_low s.solution)
  where
    by : (b : Bool) → are_low s.context ≡ b → (c : Bool) → IfOk {E = Stop} (cond (b && c) (Ok s) (Err Deep)) (λ t. are_low t.context ≡ true)
    by true e true = e
    by true e false = tt
    by false e c = tt

state_solved-low : (s : State) (e : Equation) (x : ℕ) (A : Term) (found : Option Term) → IsLowTerm found → IfOk (state_solved s e x A found) IsLowPair
state_solved-low s e x A None low = tt
state_solved-low s e x A (Some u) low =
    and_then-has (λ t. are_low t.context ≡ true) IsLowPair (bounded_state (solved_state s e.place.level (length s.context - (x + 1)) A u))
    (λ t. Ok (Some (u, t))) (bounded-context (solved_state s e.place.level (length s.context - (x + 1)) A u)) (λ t h. (low, h))

side_solved-low : (S : Signature) (s : State) (e : Equation) (x : ℕ) (A other : Term) (left : ℕ) → height other ≤ most_height
    → Answers IsLowPair (side_solved S s e x A other left)
side_solved-low S s e x A other left low =
    and_next-has IsLowTerm IsLowPair (solves S s x A other left) (λ found rest. answered (state_solved s e x A found) rest)
    (solves-low S s x A other left low) (λ found rest h. state_solved-low s e x A found h)

-- each pair makes a low turn
solve_side-low : (S : Signature) (s : State) (e : Equation) (A other : Term) (step : ℕ → Term → Step) (found : Option ℕ) (left : ℕ)
    → height other ≤ most_height
    → ((x : ℕ) (u : Term) (t : State) → height u ≤ most_height → are_low t.context ≡ true → IsLowTurn (Goes (step x u) t))
    → Low (solve_side S s e A other step found) left
solve_side-low S s e A other step None left low h = tt
solve_side-low S s e A other step (Some x) left low h =
    and_next-has IsLowPair IsLowFound (side_solved S s e x A other left) (λ pair rest. answered (Ok (turn_by (step x) pair)) rest)
    (side_solved-low S s e x A other left low) by
  where
    by : (pair : Option (Term × State)) (rest : ℕ) → IsLowPair pair → IsLowFound (turn_by (step x) pair)
    by None rest is = tt
    by (Some pair) rest is = h x pair.0 pair.1 is.0 is.1

solve_sides-low : (S : Signature) (s : State) (e : Equation) (A u v : Term) (left : ℕ) → height u ≤ most_height → height v ≤ most_height
    → Low (solve_sides S s e A u v) left
solve_sides-low S s e A u v left hu hv =
    or_else-low (solve_side S s e A u (right_step A v) (variable_in v)) (solve_side S s e A v (left_step A u) (variable_in u)) left
    (solve_side-low S s e A u (right_step A v) (variable_in v) left hu (λ x w t h k. (h, k)))
    (λ rest. solve_side-low S s e A v (left_step A u) (variable_in u) rest hv (λ x w t h k. (h, k)))

with_variable-low : (S : Signature) (s : State) (e : Equation) (u v : Term) (o o' : Option ℕ) (left : ℕ) → height u ≤ most_height → height v ≤ most_height
    → Low (with_variable S s e u v o o') left
with_variable-low S s e u v o o' left hu hv = by o o'
  where
    goes : Answers IsLowFound (and_next (tidy_of S left (type_in e.type)) (λ A rest. solve_sides S s e A u v rest))
    goes = after-any (tidy_of S left (type_in e.type)) (λ A rest. solve_sides S s e A u v rest) (λ A rest. solve_sides-low S s e A u v rest hu hv)

    by : (o o' : Option ℕ) → Low (with_variable S s e u v o o') left
    by None None = tt
    by None (Some y) = goes
    by (Some x) None = goes
    by (Some x) (Some y) = goes

solution_trial-low : (S : Signature) (s : State) (e : Equation) (left : ℕ) → Low (solution_trial S s e) left
solution_trial-low S s e left =
    on_tidied-low S e.left e.right _ left (λ u v rest hu hv. with_variable-low S s e u v (variable_in u) (variable_in v) rest hu hv)

-- ---- cycles, deletions, and where no rule goes on

cycle_search-low : (S : Signature) (e : Equation) (x : ℕ) (step : Term → Step) (t : Term) (left : ℕ) → Low (cycle_search S e x step t) left
cycle_search-low S e x step t left = after-any (reduced_side S x t (built_of S t) left) (λ found rest. cycle_at S e step found rest) by
  where
    by : (found : Option Term) (rest : ℕ) → Low (cycle_at S e step found) rest
    by None rest = tt
    by (Some w) rest = fails_at-low S (step w) e.left e.right rest

right_variable-low : (S : Signature) (e : Equation) (l : Term) (found : Option ℕ) (left : ℕ) → Low (right_variable S e l found) left
right_variable-low S e l None left = tt
right_variable-low S e l (Some x) left = cycle_search-low S e x (λ u. cycle_step e x u (Var x)) l left

left_constructor-low : (S : Signature) (e : Equation) (l : Term) (found : Option Built) (left : ℕ) → Low (left_constructor S e l found) left
left_constructor-low S e l None left = tt
left_constructor-low S e l (Some b) left = by (is_acyclic b)
  where
    goes : Answers IsLowFound (and_next (whnf_of S true left e.right) (λ r rest. right_variable S e l (variable_in r) rest))
    goes = after-any (whnf_of S true left e.right) (λ r rest. right_variable S e l (variable_in r) rest) (λ r rest. right_variable-low S e l (variable_in r) rest)

    by : (test : Bool)
        → Answers IsLowFound (cond test (and_next (whnf_of S true left e.right) (λ r rest. right_variable S e l (variable_in r) rest)) (does_not_apply left))
    by true = goes
    by false = tt

left_form-low : (S : Signature) (e : Equation) (l : Term) (found : Option ℕ) (left : ℕ) → Low (left_form S e l found) left
left_form-low S e l (Some x) left =
    after-any (whnf_of S true left e.right) (λ r rest. cycle_search S e x (λ v. cycle_step e x (Var x) v) r rest)
    (λ r rest. cycle_search-low S e x (λ v. cycle_step e x (Var x) v) r rest)
left_form-low S e l None left = left_constructor-low S e l (built_of S l) left

cycle_trial-low : (S : Signature) (e : Equation) (left : ℕ) → Low (cycle_trial S e) left
cycle_trial-low S e left =
    after-any (whnf_of S true left e.left) (λ l rest. left_form S e l (variable_in l) rest) (λ l rest. left_form-low S e l (variable_in l) rest)

delete-low : (S : Signature) (s : State) (e : Equation) (left : ℕ) → Low (delete S s e) left
delete-low S s e left =
    after-any (tidy_of S left (type_in e.type)) _ (λ A rest.
    on_tidied-low S e.left e.right _ rest (λ u v end h k.
    goes_to-low (deletion_step A u v) (bounded_state (deleted_state s e.place.level A u)) end (any-answer _)))

if_convertible-low : (S : Signature) (s : State) (e : Equation) (holds : Bool) (left : ℕ) → Low (if_convertible S s e holds) left
if_convertible-low S s e true left =
    cond-low S.has_k (delete S s e) (sticks_at S NeedsK e.left e.right) left (delete-low S s e left)
    (on_tidied-low S e.left e.right _ left (λ u v rest h k. tt))
if_convertible-low S s e false left = tt

deletion_trial-low : (S : Signature) (s : State) (e : Equation) (left : ℕ) → Low (deletion_trial S s e) left
deletion_trial-low S s e left =
    after-any (convertible_of S nesting e.left e.right left) (λ holds rest. if_convertible S s e holds rest)
    (λ holds rest. if_convertible-low S s e holds rest)

stuck_trial-low : (S : Signature) (e : Equation) (left : ℕ) → Low (stuck_trial S e) left
stuck_trial-low S e left = on_tidied-low S e.left e.right _ left (λ u v rest h k. tt)

-- ---- turns

first_trials-low : (S : Signature) (s : State) (e : Equation) (left : ℕ) → Low (first_trials S s e) left
first_trials-low S s e left =
    or_else-low (solution_trial S s e) _ left (solution_trial-low S s e left) (λ a.
    or_else-low (constructor_trial S s e) _ a (constructor_trial-low S s e a) (λ b.
    or_else-low (cycle_trial S e) _ b (cycle_trial-low S e b) (λ c.
    or_else-low (deletion_trial S s e) (stuck_trial S e) c (deletion_trial-low S s e c) (λ d. stuck_trial-low S e d))))

trials-low : (S : Signature) (s : State) (equations : List Equation) (left : ℕ) → Low (trials S s equations) left
trials-low S s [] left = tt
trials-low S s (e ∷ others) left =
    or_else-low (group_trials S s (length others)) (first_trials S s e) left (group_trials-low S s (length others) left)
    (λ rest. first_trials-low S s e rest)

-- the turn that a state comes to
pub turn-low : (S : Signature) (s : State) (left : ℕ) → Answers (λ found. IfSome found IsLowTurn) (turn_of S s left)
turn-low S s left = trials-low S s s.equations left
