-- Runs: turns from a state on, until one that is an end. `Run` is the relation. `run_of` works it out, by a measure that falls at
-- each turn: a turn that goes on spends units, or else solves a variable, or else makes the equations smaller.
use Rattle.std.specs.Prelude.{◌≡◌, ℕ, zero, suc, ◌+◌, nat_lt, cond, Option, Some, None, List, [], ◌∷◌, length, Result, Ok, Err}
use Rattle.theory.specs.Terms.{Term, Pi, Lam, App, Let}
use Rattle.theory.specs.Signatures.{Signature}
use Rattle.core_terms.specs.Answers.{Spent, and_next}
use Rattle.core_terms.specs.CaseTrees.{Step}
use Rattle.core_terms.specs.declared.stop.Stop.{Stop}
use Rattle.core_terms.specs.declared.stop.Stop.TheVariants.{Deep}
use Rattle.kernel_reduce.specs.Reduction.{answered}
use Rattle.unification.specs.States.{Equation, State, Problem}
use Rattle.unification.specs.Heights.{start_made}
use Rattle.unification.specs.Outcomes.{Outcome, Solved, Absurd, Stuck, before}
use Rattle.unification.specs.Turns.{Turn, Done, Goes, Fails, Sticks}
use Rattle.unification.specs.Strategy.{turn_of}

-- the outcome of a turn that is an end
abbrev pub end_of : State → Turn → Option Outcome
end_of s Done = Some (Solved [] s.context s.solution)
end_of s (Goes step t) = None
end_of s (Fails step left right) = Some (Absurd (step ∷ []) s.context left right)
end_of s (Sticks why left right) = Some (Stuck [] s.context left right why)

-- a result with one step more before the others
abbrev pub behind_step : Step → Result Outcome Stop → Result Outcome Stop
behind_step step (Ok outcome) = Ok (before step outcome)
behind_step step (Err e) = Err e

-- Run S s left result rest: from the state s with `left` units comes the result, with `rest` units left
pub data Run (S : Signature) : State → ℕ → Result Outcome Stop → ℕ → Type 0 where
  ends : (s : State) (left rest : ℕ) (turn : Turn) (outcome : Outcome) → turn_of S s left ≡ answered (Ok (Some turn)) rest
      → end_of s turn ≡ Some outcome → Run S s left (Ok outcome) rest
  refused : (s : State) (left rest : ℕ) (e : Stop) → turn_of S s left ≡ answered (Err e) rest → Run S s left (Err e) rest
  goes : (s t : State) (left rest end : ℕ) (step : Step) (result : Result Outcome Stop)
      → turn_of S s left ≡ answered (Ok (Some (Goes step t))) rest → Run S t rest result end
      → Run S s left (behind_step step result) end

-- ---- the measure

-- how many formers and leaves a term has
abbrev pub size_of : Term → ℕ
size_of (Pi a b) = 1 + (size_of a + size_of b)
size_of (Lam a b) = 1 + (size_of a + size_of b)
size_of (App f a) = 1 + (size_of f + size_of a)
size_of (Let a t b) = 1 + (size_of a + (size_of t + size_of b))
size_of _ = 1

-- the size of the sides of equations
abbrev pub size_of_sides : List Equation → ℕ
size_of_sides [] = 0
size_of_sides (e ∷ equations) = size_of e.left + size_of e.right + size_of_sides equations

-- ---- a run, worked out

-- how a run goes on from a state
abbrev pub Going : Type 0
Going = State → ℕ → Spent Outcome

-- where the measure has fallen as far as it can: no turn goes on there
abbrev pub nowhere : Going
nowhere s left = answered (Err Deep) left

-- how a run goes on from s with `left` units to t with `rest`, by the measure that has become less
abbrev pub by_measure : (units variables size : Going) → (s : State) (left : ℕ) → Going
by_measure units variables size s left t rest =
    cond (nat_lt rest left) (units t rest)
    (cond (nat_lt (length t.context) (length s.context)) (variables t rest) (size t rest))

abbrev pub goes_on : Going → Step → Going
goes_on go step t left = and_next (go t left) (λ outcome rest. answered (Ok (before step outcome)) rest)

abbrev pub after : Going → State → Option Turn → ℕ → Spent Outcome
after go s (Some Done) left = answered (Ok (Solved [] s.context s.solution)) left
after go s (Some (Goes step t)) left = goes_on go step t left
after go s (Some (Fails step u v)) left = answered (Ok (Absurd (step ∷ []) s.context u v)) left
after go s (Some (Sticks why u v)) left = answered (Ok (Stuck [] s.context u v why)) left
after go s None left = nowhere s left

abbrev pub one_turn : Signature → (State → ℕ → Going) → Going
one_turn S go s left = and_next (turn_of S s left) (λ turn rest. after (go s left) s turn rest)

-- the sides of the equations have at most this size
abbrev pub by_size : Signature → (units variables : Going) → (size : ℕ) → Going
by_size S units variables zero s left = one_turn S (by_measure units variables nowhere) s left
by_size S units variables (suc size) s left =
    one_turn S (by_measure units variables (by_size S units variables size)) s left

-- the context has at most so many variables
abbrev pub by_variables : Signature → (units : Going) → (variables : ℕ) → Going
by_variables S units zero s left = by_size S units nowhere (size_of_sides s.equations) s left
by_variables S units (suc variables) s left =
    by_size S units (by_variables S units variables) (size_of_sides s.equations) s left

-- at most so many units are left
abbrev pub by_units : Signature → (units : ℕ) → Going
by_units S zero s left = by_variables S nowhere (length s.context) s left
by_units S (suc units) s left = by_variables S (by_units S units) (length s.context) s left

-- the run from a state on
abbrev pub run_of : Signature → Going
run_of S s left = by_units S left s left

-- the run of a problem
abbrev pub unify_of : Signature → Problem → ℕ → Spent Outcome
unify_of S p left = and_next (answered (start_made p) left) (λ s rest. run_of S s rest)
