-- Signatures of which the same is read have the same runs of unification.
use mathlib.Core.Path.{fun_ext}
use Rattle.std.proofs.Common.{◌≡◌, ℕ, zero, suc, length, ap, ap₂, ◌∙◌}
use Rattle.theory.specs.Signatures.{Signature}
use Rattle.core_terms.specs.Answers.{Spent, and_next}
use Rattle.kernel_reduce.specs.Reduction.{answered}
use Rattle.unification.specs.Heights.{start_made}
use Rattle.unification.specs.Runs as run
use Rattle.unification.specs.Runs.{Going, after, by_measure, by_size, by_variables, nowhere, one_turn, run_of, size_of_sides, unify_of}
use Rattle.unification.specs.Outcomes.{Outcome}
use Rattle.unification.specs.States.{Problem, State}
use Rattle.unification.specs.Turns.{Trial}
use Rattle.function_session.specs.plan_laws.Reading.{AreReadAlike}
use Rattle.function_session.proofs.plan_laws.SameTrials.{turn-of-is}

-- how a run goes on from a state, with the state and the units before it
abbrev Goes : Type 0
Goes = State → ℕ → Going

module _ (S T : Signature) (alike : AreReadAlike S T) where
  turn-is : one_turn S ≡ one_turn T
  turn-is =
      ap {B = Goes → Going}
      (λ (turn : State → Trial) (go : Goes) (s : State) (left : ℕ). and_next (turn s left) (λ turn rest. after (go s left) s turn rest))
      (turn-of-is S T alike)

  size-same : (units variables : Going) (size : ℕ) (s : State) (left : ℕ) → by_size S units variables size s left ≡ by_size T units variables size s left
  size-same units variables zero s left = ap (λ (turn : Goes → Going). turn (by_measure units variables nowhere) s left) turn-is
  size-same units variables (suc size) s left =
      ap₂ (λ (turn : Goes → Going) (go : Going). turn (by_measure units variables go) s left) turn-is
      (fun_ext (λ t. fun_ext (λ n. size-same units variables size t n)))

  variables-same : (units : Going) (variables : ℕ) (s : State) (left : ℕ) → by_variables S units variables s left ≡ by_variables T units variables s left
  variables-same units zero s left = size-same units nowhere (size_of_sides s.equations) s left
  variables-same units (suc variables) s left =
      ap (λ (go : Going). by_size S units go (size_of_sides s.equations) s left)
      (fun_ext (λ t. fun_ext (λ n. variables-same units variables t n)))
      ∙ size-same units (by_variables T units variables) (size_of_sides s.equations) s left

  units-same : (units : ℕ) (s : State) (left : ℕ) → run.by_units S units s left ≡ run.by_units T units s left
  units-same zero s left = variables-same nowhere (length s.context) s left
  units-same (suc units) s left =
      ap (λ (go : Going). by_variables S go (length s.context) s left) (fun_ext (λ t. fun_ext (λ n. units-same units t n)))
      ∙ variables-same (run.by_units T units) (length s.context) s left

  run-is : run_of S ≡ run_of T
  run-is = fun_ext (λ s. fun_ext (λ left. units-same left s left))

  pub unify-is : unify_of S ≡ unify_of T
  unify-is =
      ap {B = Problem → ℕ → Spent Outcome} (λ (go : Going) p (left : ℕ). and_next (answered (start_made p) left) (λ s rest. go s rest)) run-is
