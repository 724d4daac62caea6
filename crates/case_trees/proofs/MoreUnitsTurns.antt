-- With more units a turn of unification comes to the same, unless there were too few.
use Rattle.std.proofs.Common.{ℕ, zero, suc, ◌+◌, ◌==◌, Bool, true, false, cond, Option, Some, None, Result, List, [], ◌∷◌, length, take, slice_get, refl}
use Rattle.theory.specs.Terms.{Term, Var}
use Rattle.theory.specs.Signatures.{Signature}
use Rattle.core_terms.specs.Answers.{and_next}
use Rattle.core_terms.specs.CaseTrees.{Step}
use Rattle.core_terms.specs.declared.stop.Stop.{Stop}
use Rattle.core_terms.specs.declared.stop.Stop.TheVariants.{Fuel}
use Rattle.kernel_reduce.specs.Comparison.{convertible_of}
use Rattle.kernel_reduce.specs.Reduction.{nesting, whnf_of, normal_of}
use Rattle.kernel_reduce.specs.Tidying.{tidy_of}
use Rattle.unification.specs.Built.{Built, built_of, is_fitting, has_no_indices}
use Rattle.unification.specs.Constructors.{where_fits, right_head, heads, with_built, with_heads, on_constructors, constructor_turn, constructor_trial}
use Rattle.unification.specs.Cycles.{search_in, is_acyclic, bounded_found, reduced_side, cycle_at, cycle_search, cycle_step, right_variable, left_constructor, left_form, cycle_trial}
use Rattle.unification.specs.Deletions.{if_convertible, deletion_trial}
use Rattle.unification.specs.Groups.{Membership, membership_of, all_convertible, are_equations_of, group_turn, if_holds, on_membership, last_trial, group_trial, group_trials}
use Rattle.unification.specs.Solutions.{variable_in, is_free_of, solution_from, solves, state_solved, side_solved, solve_side, right_step, left_step, solve_sides, with_variable, solution_trial}
use Rattle.unification.specs.States.{Equation, State, types_as_they_stand}
use Rattle.unification.specs.Sticking.{stuck_trial}
use Rattle.unification.specs.Strategy.{first_trials, trials, turn_of}
use Rattle.unification.specs.Turns.{Trial, Turn, goes_to, tidied, on_tidied, fails_at, sticks_at, type_in, unless_found, or_else}
use Rattle.unification.specs.declared.why.Why.{Why}
use Rattle.unification.specs.declared.why.Why.TheVariants.{NeedsK}
use Rattle.case_trees.proofs.MoreUnitsSearches.{search-lasts}
use Rattle.case_trees.proofs.MoreUnits.{answers-last, and_next-lasts, cond-lasts, AlwaysLasts, whnf-lasts, normal-lasts, both-last, convertible-lasts}

abbrev TrialLasts : Trial → Type 0
TrialLasts trial = AlwaysLasts Fuel trial

-- ---- trials one after the other

unless_found-lasts : (found : Option Turn) (second : Trial) → TrialLasts second → TrialLasts (unless_found found second)
unless_found-lasts (Some turn) second h = λ left more fine. refl
unless_found-lasts None second h = h

or_else-lasts : (first second : Trial) → TrialLasts first → TrialLasts second → TrialLasts (or_else first second)
or_else-lasts first second h k = λ left more.
    and_next-lasts Fuel more (first left) (first (left + more)) _ _ (h left more) (λ found rest. unless_found-lasts found second k rest more)

cond-last : (test : Bool) (one other : Trial) → TrialLasts one → TrialLasts other → TrialLasts (cond test one other)
cond-last true one other h k = h
cond-last false one other h k = k

goes_to-lasts : (step : Step) (made : Result State Stop) → TrialLasts (goes_to step made)
goes_to-lasts step made = λ left more.
    and_next-lasts Fuel more (made, left) (made, left + more) _ _ (answers-last Fuel more made left) (λ s rest fine. refl)

-- a tidied term
tidy-lasts : (S : Signature) (t : Term) (go : Term → Trial) → ((u : Term) → TrialLasts (go u))
    → TrialLasts (λ left. and_next (tidy_of S left t) (λ u rest. go u rest))
tidy-lasts S t go h = λ left more.
    and_next-lasts Fuel more (tidy_of S left t) (tidy_of S (left + more) t) _ _ (whnf-lasts S false left more t) (λ u rest. h u rest more)

on_tidied-lasts : (S : Signature) (u v : Term) (go : Term → Term → Trial) → ((u' v' : Term) → TrialLasts (go u' v')) → TrialLasts (on_tidied S u v go)
on_tidied-lasts S u v go h = λ left more.
    and_next-lasts Fuel more (tidied S u v left) (tidied S u v (left + more)) _ _
    (and_next-lasts Fuel more (tidy_of S left u) (tidy_of S (left + more) u) _ _ (whnf-lasts S false left more u) (λ u' rest.
    and_next-lasts Fuel more (tidy_of S rest v) (tidy_of S (rest + more) v) _ _ (whnf-lasts S false rest more v) (λ v' end fine. refl)))
    (λ sides rest. h sides.0 sides.1 rest more)

fails_at-lasts : (S : Signature) (step : Step) (u v : Term) → TrialLasts (fails_at S step u v)
fails_at-lasts S step u v = on_tidied-lasts S u v _ (λ u' v' left more fine. refl)

sticks_at-lasts : (S : Signature) (why : Why) (u v : Term) → TrialLasts (sticks_at S why u v)
sticks_at-lasts S why u v = on_tidied-lasts S u v _ (λ u' v' left more fine. refl)

-- ---- solution

solves-last : (S : Signature) (s : State) (x : ℕ) (A u : Term) → AlwaysLasts Fuel (solves S s x A u)
solves-last S s x A u = λ left more.
    cond-lasts Fuel more (is_free_of s x A) (solution_from S s x u left) _ (solution_from S s x u (left + more)) _
    (cond-lasts Fuel more (is_free_of s x u) _ _ _ _ (answers-last Fuel more _ left)
    (and_next-lasts Fuel more (normal_of S true nesting u left) (normal_of S true nesting u (left + more)) _ _ (normal-lasts S true nesting u left more)
    (λ v rest fine. refl)))
    (answers-last Fuel more _ left)

solve_side-lasts : (S : Signature) (s : State) (e : Equation) (A other : Term) (step : ℕ → Term → Step) (found : Option ℕ)
    → TrialLasts (solve_side S s e A other step found)
solve_side-lasts S s e A other step None = λ left more fine. refl
solve_side-lasts S s e A other step (Some x) = λ left more.
    and_next-lasts Fuel more (side_solved S s e x A other left) (side_solved S s e x A other (left + more)) _ _
    (and_next-lasts Fuel more (solves S s x A other left) (solves S s x A other (left + more)) _ _ (solves-last S s x A other left more)
    (λ found rest. answers-last Fuel more (state_solved s e x A found) rest))
    (λ found rest fine. refl)

with_variable-lasts : (S : Signature) (s : State) (e : Equation) (u v : Term) (from_left from_right : Option ℕ) → TrialLasts (with_variable S s e u v from_left from_right)
with_variable-lasts S s e u v from_left from_right = by from_left from_right
  where
    goes : TrialLasts (λ left. and_next (tidy_of S left (type_in e.type)) (λ A rest. solve_sides S s e A u v rest))
    goes =
        tidy-lasts S (type_in e.type) (λ A. solve_sides S s e A u v) (λ A.
        or_else-lasts (solve_side S s e A u (right_step A v) (variable_in v)) (solve_side S s e A v (left_step A u) (variable_in u))
        (solve_side-lasts S s e A u (right_step A v) (variable_in v)) (solve_side-lasts S s e A v (left_step A u) (variable_in u)))

    by : (o o' : Option ℕ) → TrialLasts (with_variable S s e u v o o')
    by None None = λ left more fine. refl
    by None (Some y) = goes
    by (Some x) None = goes
    by (Some x) (Some y) = goes

solution_trial-lasts : (S : Signature) (s : State) (e : Equation) → TrialLasts (solution_trial S s e)
solution_trial-lasts S s e = on_tidied-lasts S e.left e.right _ (λ u v. with_variable-lasts S s e u v (variable_in u) (variable_in v))

-- ---- constructors on both sides

right_head-lasts : (S : Signature) (l v : Term) (o : Option Built) → AlwaysLasts Fuel (right_head S l v o)
right_head-lasts S l v None = λ left more fine. refl
right_head-lasts S l v (Some b) = λ left more.
    and_next-lasts Fuel more (whnf_of S true left v) (whnf_of S true (left + more) v) _ _ (whnf-lasts S true left more v) (λ r rest fine. refl)

with_built-lasts : (go : (l : Term) (b : Built) (r : Term) (d : Built) → Trial) → ((l : Term) (b : Built) (r : Term) (d : Built) → TrialLasts (go l b r d))
    → (l r : Term) (o o' : Option Built) → TrialLasts (with_built go l r o o')
with_built-lasts go h l r (Some b) (Some d) = h l b r d
with_built-lasts go h l r (Some b) None = λ left more fine. refl
with_built-lasts go h l r None (Some d) = λ left more fine. refl
with_built-lasts go h l r None None = λ left more fine. refl

on_constructors-last : (S : Signature) (fits : Built → Bool) (u v : Term) (go : (l : Term) (b : Built) (r : Term) (d : Built) → Trial)
    → ((l : Term) (b : Built) (r : Term) (d : Built) → TrialLasts (go l b r d)) → TrialLasts (on_constructors S fits u v go)
on_constructors-last S fits u v go h = λ left more.
    and_next-lasts Fuel more (heads S fits u v left) (heads S fits u v (left + more)) _ _
    (and_next-lasts Fuel more (whnf_of S true left u) (whnf_of S true (left + more) u) _ _ (whnf-lasts S true left more u) (λ l rest.
    right_head-lasts S l v (where_fits fits (built_of S l)) rest more))
    (λ found rest. by found rest more)
  where
    by : (found : Option (Term × Term)) → TrialLasts (with_heads S go found)
    by None = λ left more fine. refl
    by (Some sides) = with_built-lasts go h sides.0 sides.1 (built_of S sides.0) (built_of S sides.1)

constructor_trial-lasts : (S : Signature) (s : State) (e : Equation) → TrialLasts (constructor_trial S s e)
constructor_trial-lasts S s e =
    on_constructors-last S (λ b. is_fitting b.family) e.left e.right (constructor_turn S s e) (λ l b r d.
    cond-last (b.number == d.number) _ _
    (cond-last (has_no_indices b.family) _ _ (goes_to-lasts _ _) (λ left more fine. refl))
    (fails_at-lasts S _ e.left e.right))

-- ---- groups

all_convertible-lasts : (S : Signature) (types others : List Term) → AlwaysLasts Fuel (all_convertible S types others)
all_convertible-lasts S (a ∷ types) (b ∷ others) =
    both-last (convertible_of S nesting a b) (all_convertible S types others) (convertible-lasts S nesting a b) (all_convertible-lasts S types others)
all_convertible-lasts S [] (b ∷ others) = λ left more fine. refl
all_convertible-lasts S (a ∷ types) [] = λ left more fine. refl
all_convertible-lasts S [] [] = λ left more fine. refl

if_holds-lasts : (holds : Bool) (go : Trial) → TrialLasts go → TrialLasts (if_holds holds go)
if_holds-lasts true go h = h
if_holds-lasts false go h = λ left more fine. refl

on_membership-lasts : (S : Signature) (s : State) (k : ℕ) (e : Equation) (type : Term) (o : Option Membership) → TrialLasts (on_membership S s k e type o)
on_membership-lasts S s k e type None = λ left more fine. refl
on_membership-lasts S s k e type (Some m) =
    on_constructors-last S (λ b. b.n == m.n) e.left e.right _ (λ l b r d left more.
    and_next-lasts Fuel more (are_equations_of S m (take (k + 1) s.equations) left) (are_equations_of S m (take (k + 1) s.equations) (left + more)) _ _
    (and_next-lasts Fuel more _ _ _ _ (answers-last Fuel more _ left) (λ types rest.
    all_convertible-lasts S (types_as_they_stand (take (k + 1) s.equations)) types rest more))
    (λ holds rest.
    if_holds-lasts holds (group_turn S s k e m type l b r d)
    (cond-last (b.number == d.number) _ _ (goes_to-lasts _ _) (fails_at-lasts S _ e.left e.right)) rest more))

last_trial-lasts : (S : Signature) (s : State) (k : ℕ) (o : Option Equation) → TrialLasts (last_trial S s k o)
last_trial-lasts S s k None = λ left more fine. refl
last_trial-lasts S s k (Some e) =
    tidy-lasts S e.place.type (λ type. on_membership S s k e type (membership_of S k type)) (λ type. on_membership-lasts S s k e type (membership_of S k type))

group_trials-last : (S : Signature) (s : State) (k : ℕ) → TrialLasts (group_trials S s k)
group_trials-last S s zero = λ left more fine. refl
group_trials-last S s (suc k) =
    or_else-lasts (group_trial S s (suc k)) (group_trials S s k) (last_trial-lasts S s (suc k) (slice_get s.equations (suc k))) (group_trials-last S s k)

-- ---- deletion

if_convertible-lasts : (S : Signature) (s : State) (e : Equation) (holds : Bool) → TrialLasts (if_convertible S s e holds)
if_convertible-lasts S s e true =
    cond-last S.has_k _ _
    (tidy-lasts S (type_in e.type) _ (λ A. on_tidied-lasts S e.left e.right _ (λ u v. goes_to-lasts _ _)))
    (sticks_at-lasts S NeedsK e.left e.right)
if_convertible-lasts S s e false = λ left more fine. refl

deletion_trial-lasts : (S : Signature) (s : State) (e : Equation) → TrialLasts (deletion_trial S s e)
deletion_trial-lasts S s e = λ left more.
    and_next-lasts Fuel more (convertible_of S nesting e.left e.right left) (convertible_of S nesting e.left e.right (left + more)) _ _
    (convertible-lasts S nesting e.left e.right left more) (λ holds rest. if_convertible-lasts S s e holds rest more)

stuck_trial-lasts : (S : Signature) (e : Equation) → TrialLasts (stuck_trial S e)
stuck_trial-lasts S e = on_tidied-lasts S e.left e.right _ (λ u v left more fine. refl)

-- ---- cycles

reduced_side-lasts : (S : Signature) (x : ℕ) (t : Term) (o : Option Built) → AlwaysLasts Fuel (reduced_side S x t o)
reduced_side-lasts S x t None = λ left more fine. refl
reduced_side-lasts S x t (Some b) = λ left more.
    cond-lasts Fuel more (is_acyclic b) _ _ _ _
    (and_next-lasts Fuel more (search_in S b.n x t left) (search_in S b.n x t (left + more)) _ _ (search-lasts S b.n x t left more)
    (λ found rest. answers-last Fuel more (bounded_found found) rest))
    (answers-last Fuel more _ left)

cycle_at-lasts : (S : Signature) (e : Equation) (step : Term → Step) (o : Option Term) → TrialLasts (cycle_at S e step o)
cycle_at-lasts S e step None = λ left more fine. refl
cycle_at-lasts S e step (Some t) = fails_at-lasts S (step t) e.left e.right

cycle_search-lasts : (S : Signature) (e : Equation) (x : ℕ) (step : Term → Step) (t : Term) → TrialLasts (cycle_search S e x step t)
cycle_search-lasts S e x step t = λ left more.
    and_next-lasts Fuel more (reduced_side S x t (built_of S t) left) (reduced_side S x t (built_of S t) (left + more)) _ _
    (reduced_side-lasts S x t (built_of S t) left more) (λ found rest. cycle_at-lasts S e step found rest more)

right_variable-lasts : (S : Signature) (e : Equation) (l : Term) (o : Option ℕ) → TrialLasts (right_variable S e l o)
right_variable-lasts S e l None = λ left more fine. refl
right_variable-lasts S e l (Some x) = cycle_search-lasts S e x (λ u. cycle_step e x u (Var x)) l

left_form-lasts : (S : Signature) (e : Equation) (l : Term) (o : Option ℕ) → TrialLasts (left_form S e l o)
left_form-lasts S e l (Some x) = λ left more.
    and_next-lasts Fuel more (whnf_of S true left e.right) (whnf_of S true (left + more) e.right) _ _ (whnf-lasts S true left more e.right)
    (λ r rest. cycle_search-lasts S e x (λ v. cycle_step e x (Var x) v) r rest more)
left_form-lasts S e l None = by (built_of S l)
  where
    by : (o : Option Built) → TrialLasts (left_constructor S e l o)
    by None = λ left more fine. refl
    by (Some b) = λ left more.
        cond-lasts Fuel more (is_acyclic b) _ _ _ _
        (and_next-lasts Fuel more (whnf_of S true left e.right) (whnf_of S true (left + more) e.right) _ _ (whnf-lasts S true left more e.right)
        (λ r rest. right_variable-lasts S e l (variable_in r) rest more))
        (answers-last Fuel more _ left)

cycle_trial-lasts : (S : Signature) (e : Equation) → TrialLasts (cycle_trial S e)
cycle_trial-lasts S e = λ left more.
    and_next-lasts Fuel more (whnf_of S true left e.left) (whnf_of S true (left + more) e.left) _ _ (whnf-lasts S true left more e.left)
    (λ l rest. left_form-lasts S e l (variable_in l) rest more)

-- ---- all trials

trials-last : (S : Signature) (s : State) (es : List Equation) → TrialLasts (trials S s es)
trials-last S s [] = λ left more fine. refl
trials-last S s (e ∷ others) =
    or_else-lasts (group_trials S s (length others)) (first_trials S s e) (group_trials-last S s (length others))
    (or_else-lasts (solution_trial S s e) _ (solution_trial-lasts S s e)
    (or_else-lasts (constructor_trial S s e) _ (constructor_trial-lasts S s e)
    (or_else-lasts (cycle_trial S e) _ (cycle_trial-lasts S e)
    (or_else-lasts (deletion_trial S s e) (stuck_trial S e) (deletion_trial-lasts S s e) (stuck_trial-lasts S e)))))

pub turn-lasts : (S : Signature) (s : State) → TrialLasts (turn_of S s)
turn-lasts S s = trials-last S s s.equations
