-- A run follows the rules: its outcome is reached by its steps, each of which is scoped.
use Rattle.std.proofs.Common.{IfSome, IfOk, [], ◌∷◌, sym, subst}
use Rattle.std.proofs.lemmas.Result.{IfOk-at_ok}
use Rattle.theory.specs.Signatures.{Signature}
use Rattle.core_terms.specs.Answers.{and_next}
use Rattle.core_terms.specs.CaseTrees.{Step}
use Rattle.kernel_reduce.specs.Reduction.{answered}
use Rattle.unification.specs.Laws.{IsReached, RunFollows}
use Rattle.unification.specs.Laws.IsReached.{solved, absurd as is_absurd, stuck}
use Rattle.unification.specs.Outcomes.{Outcome, before}
use Rattle.unification.specs.Rules.{Steps}
use Rattle.unification.specs.Rules.ChainWith.{none, more}
use Rattle.unification.specs.Runs.{end_of, run_of}
use Rattle.unification.specs.ScopedStates.{IsScopedState, IsScopedAt}
use Rattle.unification.specs.States.{State}
use Rattle.unification.specs.Turns.{Turn, Done, Goes, Fails, Sticks}
use Rattle.unification.proofs.RunLaws.{runs-end}
use Rattle.unification.proofs.RunProperties.{run-has}
use Rattle.unification.proofs.ScopedEquations.{start-scoped}
use Rattle.unification.proofs.TurnProperties.{IsRight}

-- one step more before the others
reached-before : (S : Signature) (s t : State) (step : Step) (outcome : Outcome) → IsScopedAt S s step → Steps S s step t
    → IsReached S t outcome → IsReached S s (before step outcome)
reached-before S s t step outcome scoped follows (solved u steps chain end) =
    solved u (step ∷ steps) (more s t u step steps scoped follows chain) end
reached-before S s t step outcome scoped follows (is_absurd u steps last l r chain evidence shows) =
    is_absurd u (step ∷ steps) last l r (more s t u step steps scoped follows chain) evidence shows
reached-before S s t step outcome scoped follows (stuck u steps l r why chain) =
    stuck u (step ∷ steps) l r why (more s t u step steps scoped follows chain)

-- an end is reached by no step, or by the last one
end-reached : (S : Signature) (s : State) (turn : Turn) → IsRight S s turn → IfSome (end_of s turn) (IsReached S s)
end-reached S s Done is = solved s [] (none s) is.follows
end-reached S s (Goes step t) is = tt
end-reached S s (Fails step u v) is = is_absurd s [] step u v (none s) is.follows.0 is.follows.1
end-reached S s (Sticks why u v) is = stuck s [] u v why (none s)

-- the run of a problem follows the rules
pub run-follows : RunFollows
run-follows S p s left ready scoped start =
    subst (λ made. IfOk (and_next (answered made left) (λ t rest. run_of S t rest)).0 (IsReached S s)) (sym start)
    (run-has S (IsScopedState S) (IsReached S) (λ s left rest turn good is. end-reached S s turn (is.right ready good))
    (λ s t left rest step good is. (is.right ready good).good.0.1)
    (λ s t left rest step outcome good is reached.
    let right = is.right ready good in reached-before S s t step outcome (good, right.good.0.0) right.follows reached)
    s left (run_of S s left).1 (run_of S s left).0 (IfOk-at_ok (IsScopedState S) start (start-scoped S p ready scoped)) (runs-end S s left))
