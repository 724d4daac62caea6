-- The outcome of a scoped problem is scoped.
use Rattle.std.proofs.Common.{◌≡◌, ℕ, IfSome, IfOk, length, ap, subst}
use Rattle.std.proofs.lemmas.Result.{IfOk-at_ok}
use Rattle.theory.specs.Signatures.{Signature}
use Rattle.core_terms.specs.CaseTrees.{Step}
use Rattle.unification.specs.Laws.{OutcomeScoped}
use Rattle.unification.specs.Outcomes.{Outcome, Solved, Absurd, Stuck, before}
use Rattle.unification.specs.Runs.{end_of, run_of}
use Rattle.unification.specs.ScopedStates.{AreScopedSteps, IsReady, IsScopedOutcome, IsScopedState, IsScopedStep, variables_behind}
use Rattle.unification.specs.States.{State}
use Rattle.unification.specs.Turns.{Turn, Done, Goes, Fails, Sticks}
use Rattle.unification.proofs.RunLaws.{runs-end}
use Rattle.unification.proofs.RunProperties.{run-has, unify-has}
use Rattle.unification.proofs.ScopedEquations.{start-is, start-scoped}
use Rattle.unification.proofs.TurnProperties.{IsGood}

-- a step more before the others
before-scoped : (S : Signature) (n m : ℕ) (step : Step) (outcome : Outcome) → IsScopedStep S n step → m ≡ variables_behind step.rule n
    → IsScopedOutcome S m outcome → IsScopedOutcome S n (before step outcome)
before-scoped S n m step (Solved steps context solution) h e k = ((h, subst (λ x. AreScopedSteps S x steps) e k.0), k.1, k.2)
before-scoped S n m step (Absurd steps context u v) h e k = ((h, subst (λ x. AreScopedSteps S x steps) e k.0), k.1, k.2, k.3)
before-scoped S n m step (Stuck steps context u v why) h e k = ((h, subst (λ x. AreScopedSteps S x steps) e k.0), k.1, k.2, k.3)

-- an end of a scoped state
end-scoped : (S : Signature) (s : State) (turn : Turn) → IsScopedState S s → IsGood S s turn → IfSome (end_of s turn) (IsScopedOutcome S (length s.context))
end-scoped S s Done h good = (tt, h.context, h.solution)
end-scoped S s (Goes step t) h good = tt
end-scoped S s (Fails step u v) h good = ((good.0.0, tt), h.context, good.0.1, good.0.2)
end-scoped S s (Sticks why u v) h good = (tt, h.context, good.0.0, good.0.1)

-- the run from a scoped state on
run-scoped : (S : Signature) (s : State) (left : ℕ) → IsReady S → IsScopedState S s → IfOk (run_of S s left).0 (IsScopedOutcome S (length s.context))
run-scoped S s left ready h =
    run-has S (IsScopedState S) (λ s. IsScopedOutcome S (length s.context))
    (λ s left rest turn good is. end-scoped S s turn good (is.right ready good).good)
    (λ s t left rest step good is. (is.right ready good).good.0.1)
    (λ s t left rest step outcome good is k.
    let right = (is.right ready good).good in before-scoped S (length s.context) (length t.context) step outcome right.0.0 right.1 k)
    s left (run_of S s left).1 (run_of S s left).0 h (runs-end S s left)

pub outcome-scoped : OutcomeScoped
outcome-scoped S p left ready scoped =
    unify-has S p left (IsScopedOutcome S (length p.context)) (λ s start.
    subst (λ n. IfOk (run_of S s left).0 (IsScopedOutcome S n)) (ap (λ (t : State). length t.context) (start-is p s start))
    (run-scoped S s left ready (IfOk-at_ok (IsScopedState S) start (start-scoped S p ready scoped))))
