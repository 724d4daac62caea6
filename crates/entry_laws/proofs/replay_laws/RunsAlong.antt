-- A property that holds at the end of a run, and before a step where it holds after it, holds of each run that unification answers.
use Rattle.std.proofs.Common.{◌≡◌, ℕ, Some, IfSome, Result, Ok, Err, IfOk, List, [], ◌∷◌, sym, subst as transport}
use Rattle.std.proofs.lemmas.Result.{IfOk-at_ok}
use Rattle.theory.specs.Signatures.{Signature}
use Rattle.core_terms.specs.CaseTrees.{Step}
use Rattle.core_terms.specs.declared.stop.Stop.{Stop}
use Rattle.kernel_reduce.specs.Reduction.{answered}
use Rattle.unification.specs.Outcomes.{Absurd, Outcome, Solved, Stuck, before, steps_in}
use Rattle.unification.specs.Rules.{IsAbsurd, Steps}
use Rattle.unification.specs.Runs as unification
use Rattle.unification.specs.Runs.{Run, end_of, run_of}
use Rattle.unification.specs.Runs.Run.{ends, goes, refused}
use Rattle.unification.specs.ScopedStates.{IsReady, IsScopedProblem, IsScopedState}
use Rattle.unification.specs.States.{Problem, State}
use Rattle.unification.specs.Strategy.{turn_of}
use Rattle.unification.specs.Turns.{Done, Fails, Goes, Sticks, Turn}
use Rattle.unification.proofs.RunLaws.{runs-end}
use Rattle.unification.proofs.RunProperties.{unify-has}
use Rattle.unification.proofs.ScopedEquations.{start-is, start-scoped}
use Rattle.unification.proofs.TurnLaws.{turn-at}
use Rattle.unification.proofs.TurnProperties.{FollowsWhole, IsRight}
use Rattle.case_trees.specs.Standing.{Runs}
use Rattle.tree_translation.specs.Laws.{Widens}
use Rattle.tree_translation.specs.Replays.{behind_step}
use Rattle.tree_translation.specs.Standings.{Standing, problem_state}
use Rattle.tree_translation.proofs.SeenSteps.{step-seen}
use Rattle.entry_laws.proofs.replay_laws.LowInjections.{IsLowBy, last-low, step-low}

pub record IsAlong (S : Signature) (P : Standing → List Step → Type 0) : Type 0 where
  pub at_end : (w : Standing) → P w []
  pub at_step : (s t : State) (step : Step) (steps : List Step) (w : Standing) → Steps S s step t → IsLowBy S s step step.rule → Widens w s
      → P (behind_step S w step) steps → P w (step ∷ steps)
  pub at_last : (s : State) (step : Step) (w : Standing) → IsAbsurd S s step → IsLowBy S s step step.rule → Widens w s → P w (step ∷ [])

abbrev Holds : (Standing → List Step → Type 0) → Standing → Outcome → Type 0
Holds P w outcome = P w (steps_in outcome)

-- the step of a turn, where it is an end
abbrev LastLow : Signature → State → Turn → Type 0
LastLow S s (Fails step u v) = IsLowBy S s step step.rule
LastLow S s turn = Unit {0}

end-along : (S : Signature) (P : Standing → List Step → Type 0) → IsAlong S P → (s : State) (turn : Turn) (w : Standing) → FollowsWhole S s turn
    → LastLow S s turn → Widens w s → IfSome (end_of s turn) (Holds P w)
end-along S P along s Done w follows low widens = along.at_end w
end-along S P along s (Goes step t) w follows low widens = tt
end-along S P along s (Fails step u v) w follows low widens = along.at_last s step w follows.0 low widens
end-along S P along s (Sticks why u v) w follows low widens = along.at_end w

one-more : (P : Standing → List Step → Type 0) (w next : Standing) (step : Step) (outcome : Outcome)
    → ((steps : List Step) → P next steps → P w (step ∷ steps)) → Holds P next outcome → Holds P w (before step outcome)
one-more P w next step (Solved steps context solution) h k = h steps k
one-more P w next step (Absurd steps context u v) h k = h steps k
one-more P w next step (Stuck steps context u v why) h k = h steps k

longer : (P : Standing → List Step → Type 0) (w next : Standing) (step : Step) (result : Result Outcome Stop)
    → ((steps : List Step) → P next steps → P w (step ∷ steps)) → IfOk result (Holds P next) → IfOk (unification.behind_step step result) (Holds P w)
longer P w next step (Ok outcome) h k = one-more P w next step outcome h k
longer P w next step (Err e) h k = tt

ends-low : (S : Signature) (s : State) (left rest : ℕ) (turn : Turn) → turn_of S s left ≡ answered (Ok (Some turn)) rest → LastLow S s turn
ends-low S s left rest Done is = tt
ends-low S s left rest (Goes step t) is = tt
ends-low S s left rest (Fails step u v) is = last-low S s left rest step u v is
ends-low S s left rest (Sticks why u v) is = tt

run-along : (S : Signature) (P : Standing → List Step → Type 0) → IsAlong S P → (s : State) (left end : ℕ) (result : Result Outcome Stop) (w : Standing)
    → IsReady S → IsScopedState S s → Widens w s → Run S s left result end → IfOk result (Holds P w)
run-along S P along s left end result w ready scoped widens (ends _ _ rest turn outcome is e) =
    transport (λ o. IfSome o (Holds P w)) e
    (end-along S P along s turn w ((turn-at S s left rest turn is).right ready scoped).follows (ends-low S s left rest turn is) widens)
run-along S P along s left end result w ready scoped widens (refused _ _ rest x is) = tt
run-along S P along s left end result w ready scoped widens (goes _ t _ rest _ step result' is run) =
    longer P w (behind_step S w step) step result'
    (λ steps h. along.at_step s t step steps w right.follows (step-low S s t left rest step is) widens h)
    (run-along S P along t rest end result' (behind_step S w step) ready right.good.0.1 (step-seen S s t step w right.follows widens) run)
  where
    right : IsRight S s (Goes step t)
    right = (turn-at S s left rest (Goes step t) is).right ready scoped

-- the run of a problem, from its state or from one over a whole context
pub problem-along : (S : Signature) (P : Standing → List Step → Type 0) → IsAlong S P → (p : Problem) (outcome : Outcome) (w : Standing) → IsReady S
    → IsScopedProblem S p → Runs S p outcome → Widens w (problem_state p) → P w (steps_in outcome)
problem-along S P along p outcome w ready scoped runs widens =
    IfOk-at_ok (Holds P w) runs.run
    (unify-has S p runs.units (Holds P w) (λ s start.
    run-along S P along s runs.units (run_of S s runs.units).1 (run_of S s runs.units).0 w ready
    (IfOk-at_ok (IsScopedState S) start (start-scoped S p ready scoped)) (transport (Widens w) (sym (start-is p s start)) widens)
    (runs-end S s runs.units)))
