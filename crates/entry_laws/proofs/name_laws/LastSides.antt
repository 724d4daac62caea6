-- A property of the sides of a cycle that a run ends with, from a property of the side in which the variable is found.
use Rattle.std.proofs.Common.{◌≡◌, ℕ, zero, suc, ◌+◌, ◌==◌, Bool, true, false, cond, Option, Some, None, IfSome, Result, Ok, Err, List, [], ◌∷◌, length, take, slice_get, refl, subst as transport}
use Rattle.theory.specs.Terms.{Term, Var}
use Rattle.theory.specs.Signatures.{Signature}
use Rattle.core_terms.specs.Answers.{Spent, and_next}
use Rattle.core_terms.specs.CaseTrees.{Step}
use Rattle.core_terms.specs.declared.case_tree.Rule.{Rule}
use Rattle.core_terms.specs.declared.case_tree.Rule.TheVariants.{Cycle}
use Rattle.core_terms.specs.declared.stop.Stop.{Stop}
use Rattle.core_terms.proofs.Answers.{Answers, and_next-has}
use Rattle.kernel_reduce.specs.Comparison.{convertible_of}
use Rattle.kernel_reduce.specs.Reduction.{answered, nesting, whnf_of}
use Rattle.kernel_reduce.specs.Tidying.{tidy_of}
use Rattle.unification.specs.Built.{Built, built_of, has_no_indices, is_fitting}
use Rattle.unification.specs.Constructors.{conflict_step, constructor_trial, constructor_turn, heads, injection_step, on_constructors, same_constructor, with_built, with_heads}
use Rattle.unification.specs.Cycles.{cycle_at, cycle_search, cycle_step, cycle_trial, is_acyclic, left_constructor, left_form, reduced_side, right_variable}
use Rattle.unification.specs.Deletions.{delete, deletion_step, deletion_trial, if_convertible}
use Rattle.unification.specs.Groups.{Membership, are_equations_of, group_trial, group_trials, group_turn, if_holds, last_trial, membership_of, on_membership}
use Rattle.unification.specs.Heights.{bounded_state, injection_made}
use Rattle.unification.specs.Solutions.{left_step, right_step, side_solved, solution_trial, solve_side, solve_sides, turn_by, variable_in, with_variable}
use Rattle.unification.specs.Solving.{deleted_state}
use Rattle.unification.specs.States.{Equation, State}
use Rattle.unification.specs.Sticking.{stuck_trial}
use Rattle.unification.specs.Strategy.{first_trials, trials, turn_of}
use Rattle.unification.specs.Turns.{Fails, Trial, Turn, does_not_apply, fails_at, goes_to, on_tidied, or_else, sticks_at, tidied, type_in, unless_found}
use Rattle.unification.specs.declared.why.Why.TheVariants.{NeedsK}
use Rattle.unification.proofs.SpentUnits.{any-answer}

-- a property of the variable of a cycle and its sides
abbrev pub CycleSide : (ℕ → (left right : Term) → Type 0) → Step → Rule → Type 0
CycleSide Q step (Cycle x) = Q x step.left step.right
CycleSide Q step rule = Unit {0}

abbrev pub LastSide : (ℕ → (left right : Term) → Type 0) → Turn → Type 0
LastSide Q (Fails step u v) = CycleSide Q step step.rule
LastSide Q turn = Unit {0}

abbrev Ends : (ℕ → (left right : Term) → Type 0) → Trial → (left : ℕ) → Type 0
Ends Q trial left = Answers (λ found. IfSome found (LastSide Q)) (trial left)

-- P is what holds of a side in which the variable is found.
module _ (S : Signature) (P : ℕ → Term → Type 0) (Q : ℕ → (left right : Term) → Type 0)
    (side_has : (x : ℕ) (t : Term) (o : Option Built) (left : ℕ) → built_of S t ≡ o → Answers (λ found. IfSome found (P x)) (reduced_side S x t o left))
    (on_left : (x : ℕ) (w : Term) → P x w → Q x (Var x) w) (on_right : (x : ℕ) (w : Term) → P x w → Q x w (Var x)) where
  after-any : {A : Type 0} (first : Spent A) (go : A → ℕ → Spent (Option Turn))
      → ((a : A) (rest : ℕ) → Answers (λ found. IfSome found (LastSide Q)) (go a rest)) → Answers (λ found. IfSome found (LastSide Q)) (and_next first go)
  after-any first go h = and_next-has (λ a. Unit {0}) (λ found. IfSome found (LastSide Q)) first go (any-answer first.0) (λ a rest is. h a rest)

  or-ends : (first second : Trial) (left : ℕ) → Ends Q first left → ((rest : ℕ) → Ends Q second rest) → Ends Q (or_else first second) left
  or-ends first second left h k =
      and_next-has (λ found. IfSome found (LastSide Q)) (λ found. IfSome found (LastSide Q)) (first left) (λ found rest. unless_found found second rest) h by
    where
      by : (found : Option Turn) (rest : ℕ) → IfSome found (LastSide Q) → Answers (λ found. IfSome found (LastSide Q)) (unless_found found second rest)
      by (Some turn) rest is = is
      by None rest is = k rest

  cond-ends : (test : Bool) (one other : Trial) (left : ℕ) → Ends Q one left → Ends Q other left → Ends Q (cond test one other) left
  cond-ends true one other left h k = h
  cond-ends false one other left h k = k

  goes-ends : (step : Step) (made : Result State Stop) (left : ℕ) → Ends Q (goes_to step made) left
  goes-ends step (Ok t) left = tt
  goes-ends step (Err e) left = tt

  tidied-ends : (u v : Term) (go : Term → Term → Trial) (left : ℕ) → ((u' v' : Term) (rest : ℕ) → Ends Q (go u' v') rest) → Ends Q (on_tidied S u v go) left
  tidied-ends u v go left h = after-any (tidied S u v left) (λ sides rest. go sides.0 sides.1 rest) (λ sides rest. h sides.0 sides.1 rest)

  fails-ends : (step : Step) (u v : Term) (left : ℕ) → CycleSide Q step step.rule → Ends Q (fails_at S step u v) left
  fails-ends step u v left side = tidied-ends u v _ left (λ u' v' rest. side)

  constructors-ends : (fits : Built → Bool) (u v : Term) (go : (l : Term) (b : Built) (r : Term) (d : Built) → Trial) (left : ℕ)
      → ((l : Term) (b : Built) (r : Term) (d : Built) (rest : ℕ) → Ends Q (go l b r d) rest) → Ends Q (on_constructors S fits u v go) left
  constructors-ends fits u v go left h = after-any (heads S fits u v left) (λ found rest. with_heads S go found rest) by
    where
      both : (l r : Term) (o o' : Option Built) (rest : ℕ) → Ends Q (with_built go l r o o') rest
      both l r (Some b) (Some d) rest = h l b r d rest
      both l r (Some b) None rest = tt
      both l r None (Some d) rest = tt
      both l r None None rest = tt

      by : (found : Option (Term × Term)) (rest : ℕ) → Ends Q (with_heads S go found) rest
      by None rest = tt
      by (Some sides) rest = both sides.0 sides.1 (built_of S sides.0) (built_of S sides.1) rest

  constructor-ends : (s : State) (e : Equation) (left : ℕ) → Ends Q (constructor_trial S s e) left
  constructor-ends s e left =
      constructors-ends (λ b. is_fitting b.family) e.left e.right (constructor_turn S s e) left (λ l b r d rest.
      cond-ends (b.number == d.number) (same_constructor s e l r b d) (fails_at S (conflict_step 1 (type_in e.type) l r b d) e.left e.right) rest
      (cond-ends (has_no_indices b.family)
      (goes_to (injection_step 1 (type_in e.type) l r b)
      (injection_made s 1 b.n b.number b.family b.constructor b.parameters b.arguments d.arguments))
      does_not_apply rest
      (goes-ends (injection_step 1 (type_in e.type) l r b) (injection_made s 1 b.n b.number b.family b.constructor b.parameters b.arguments d.arguments) rest) tt)
      (fails-ends (conflict_step 1 (type_in e.type) l r b d) e.left e.right rest tt))

  holds-ends : (holds : Bool) (go : Trial) (left : ℕ) → Ends Q go left → Ends Q (if_holds holds go) left
  holds-ends true go left h = h
  holds-ends false go left h = tt

  membership-ends : (s : State) (k : ℕ) (e : Equation) (type : Term) (o : Option Membership) (left : ℕ) → Ends Q (on_membership S s k e type o) left
  membership-ends s k e type None left = tt
  membership-ends s k e type (Some m) left =
      constructors-ends (λ b. b.n == m.n) e.left e.right _ left (λ l b r d rest.
      after-any (are_equations_of S m (take (k + 1) s.equations) rest) (λ holds end. if_holds holds (group_turn S s k e m type l b r d) end) (λ holds end.
      holds-ends holds (group_turn S s k e m type l b r d) end
      (cond-ends (b.number == d.number)
      (goes_to (injection_step (k + 1) type l r b)
      (injection_made s (k + 1) b.n b.number m.family b.constructor m.parameters b.arguments d.arguments))
      (fails_at S (conflict_step (k + 1) type l r b d) e.left e.right) end
      (goes-ends (injection_step (k + 1) type l r b) (injection_made s (k + 1) b.n b.number m.family b.constructor m.parameters b.arguments d.arguments) end)
      (fails-ends (conflict_step (k + 1) type l r b d) e.left e.right end tt))))

  last-ends : (s : State) (k : ℕ) (found : Option Equation) (left : ℕ) → Ends Q (last_trial S s k found) left
  last-ends s k None left = tt
  last-ends s k (Some e) left = after-any (tidy_of S left e.place.type) _ (λ type rest. membership-ends s k e type (membership_of S k type) rest)

  groups-ends : (s : State) (k left : ℕ) → Ends Q (group_trials S s k) left
  groups-ends s zero left = tt
  groups-ends s (suc k) left =
      or-ends (group_trial S s (suc k)) (group_trials S s k) left (last-ends s (suc k) (slice_get s.equations (suc k)) left) (λ rest. groups-ends s k rest)

  side-ends : (s : State) (e : Equation) (A other : Term) (step : ℕ → Term → Step) (found : Option ℕ) (left : ℕ) → Ends Q (solve_side S s e A other step found) left
  side-ends s e A other step None left = tt
  side-ends s e A other step (Some x) left = after-any (side_solved S s e x A other left) (λ pair rest. answered (Ok (turn_by (step x) pair)) rest) by
    where
      by : (pair : Option (Term × State)) (rest : ℕ) → IfSome (turn_by (step x) pair) (LastSide Q)
      by None rest = tt
      by (Some pair) rest = tt

  sides-ends : (s : State) (e : Equation) (A u v : Term) (left : ℕ) → Ends Q (solve_sides S s e A u v) left
  sides-ends s e A u v left =
      or-ends (solve_side S s e A u (right_step A v) (variable_in v)) (solve_side S s e A v (left_step A u) (variable_in u)) left
      (side-ends s e A u (right_step A v) (variable_in v) left) (λ rest. side-ends s e A v (left_step A u) (variable_in u) rest)

  solution-ends : (s : State) (e : Equation) (left : ℕ) → Ends Q (solution_trial S s e) left
  solution-ends s e left = tidied-ends e.left e.right _ left (λ u v rest. by u v rest (variable_in u) (variable_in v))
    where
      goes : (u v : Term) (rest : ℕ) → Answers (λ found. IfSome found (LastSide Q)) (and_next (tidy_of S rest (type_in e.type)) (λ A end. solve_sides S s e A u v end))
      goes u v rest = after-any (tidy_of S rest (type_in e.type)) (λ A end. solve_sides S s e A u v end) (λ A end. sides-ends s e A u v end)

      by : (u v : Term) (rest : ℕ) (o o' : Option ℕ) → Ends Q (with_variable S s e u v o o') rest
      by u v rest None None = tt
      by u v rest None (Some y) = goes u v rest
      by u v rest (Some x) None = goes u v rest
      by u v rest (Some x) (Some y) = goes u v rest

  -- ---- cycles

  search-ends : (e : Equation) (x : ℕ) (step : Term → Step) (t : Term) (left : ℕ) → ((w : Term) → P x w → CycleSide Q (step w) (step w).rule)
      → Ends Q (cycle_search S e x step t) left
  search-ends e x step t left h =
      and_next-has (λ found. IfSome found (P x)) (λ found. IfSome found (LastSide Q)) (reduced_side S x t (built_of S t) left)
      (λ found rest. cycle_at S e step found rest) (side_has x t (built_of S t) left refl) by
    where
      by : (found : Option Term) (rest : ℕ) → IfSome found (P x) → Ends Q (cycle_at S e step found) rest
      by None rest is = tt
      by (Some w) rest is = fails-ends (step w) e.left e.right rest (h w is)

  right-ends : (e : Equation) (l : Term) (found : Option ℕ) (left : ℕ) → Ends Q (right_variable S e l found) left
  right-ends e l None left = tt
  right-ends e l (Some x) left = search-ends e x (λ u. cycle_step e x u (Var x)) l left (on_right x)

  left-ends : (e : Equation) (l : Term) (found : Option Built) (left : ℕ) → Ends Q (left_constructor S e l found) left
  left-ends e l None left = tt
  left-ends e l (Some b) left = by (is_acyclic b)
    where
      by : (c : Bool) → Answers (λ found. IfSome found (LastSide Q))
          (cond c (and_next (whnf_of S true left e.right) (λ r rest. right_variable S e l (variable_in r) rest)) (does_not_apply left))
      by true =
          after-any (whnf_of S true left e.right) (λ r rest. right_variable S e l (variable_in r) rest) (λ r rest. right-ends e l (variable_in r) rest)
      by false = tt

  form-ends : (e : Equation) (l : Term) (found : Option ℕ) (left : ℕ) → Ends Q (left_form S e l found) left
  form-ends e l (Some x) left =
      after-any (whnf_of S true left e.right) (λ r rest. cycle_search S e x (λ v. cycle_step e x (Var x) v) r rest)
      (λ r rest. search-ends e x (λ v. cycle_step e x (Var x) v) r rest (on_left x))
  form-ends e l None left = left-ends e l (built_of S l) left

  cycle-ends : (e : Equation) (left : ℕ) → Ends Q (cycle_trial S e) left
  cycle-ends e left = after-any (whnf_of S true left e.left) (λ l rest. left_form S e l (variable_in l) rest) (λ l rest. form-ends e l (variable_in l) rest)

  -- ---- deletions, and where no rule goes on

  delete-ends : (s : State) (e : Equation) (left : ℕ) → Ends Q (delete S s e) left
  delete-ends s e left =
      after-any (tidy_of S left (type_in e.type)) _ (λ A rest.
      tidied-ends e.left e.right _ rest (λ u v end. goes-ends (deletion_step A u v) (bounded_state (deleted_state s e.place.level A u)) end))

  convertible-ends : (s : State) (e : Equation) (holds : Bool) (left : ℕ) → Ends Q (if_convertible S s e holds) left
  convertible-ends s e true left =
      cond-ends S.has_k (delete S s e) (sticks_at S NeedsK e.left e.right) left (delete-ends s e left) (tidied-ends e.left e.right _ left (λ u v rest. tt))
  convertible-ends s e false left = tt

  deletion-ends : (s : State) (e : Equation) (left : ℕ) → Ends Q (deletion_trial S s e) left
  deletion-ends s e left =
      after-any (convertible_of S nesting e.left e.right left) (λ holds rest. if_convertible S s e holds rest) (λ holds rest. convertible-ends s e holds rest)

  -- ---- all trials

  first-ends : (s : State) (e : Equation) (left : ℕ) → Ends Q (first_trials S s e) left
  first-ends s e left =
      or-ends (solution_trial S s e) _ left (solution-ends s e left) (λ a.
      or-ends (constructor_trial S s e) _ a (constructor-ends s e a) (λ b.
      or-ends (cycle_trial S e) _ b (cycle-ends e b) (λ c.
      or-ends (deletion_trial S s e) (stuck_trial S e) c (deletion-ends s e c) (λ d. tidied-ends e.left e.right _ d (λ u v rest. tt)))))

  trials-ends : (s : State) (es : List Equation) (left : ℕ) → Ends Q (trials S s es) left
  trials-ends s [] left = tt
  trials-ends s (e ∷ others) left =
      or-ends (group_trials S s (length others)) (first_trials S s e) left (groups-ends s (length others) left) (λ rest. first-ends s e rest)

  -- the last step of a turn that is an end
  pub turn-side : (s : State) (left rest : ℕ) (turn : Turn) → turn_of S s left ≡ answered (Ok (Some turn)) rest → LastSide Q turn
  turn-side s left rest turn e = transport (Answers (λ found. IfSome found (LastSide Q))) e (trials-ends s s.equations left)
