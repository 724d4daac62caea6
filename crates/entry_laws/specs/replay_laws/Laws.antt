-- The standings that the code replays are those that are meant, and no run that unification answers is refused.
use Rattle.std.specs.Prelude.{◌≡◌, ◌<◌, ℕ, Some, List, length, Ok, Err}
use Rattle.theory.specs.Terms.{Term}
use Rattle.theory.specs.Telescopes.{Telescope}
use Rattle.theory.specs.Families.{Constructor}
use Rattle.theory.specs.Signatures.{Signature}
use Rattle.core_terms.specs.CaseTrees.{Step}
use Rattle.core_terms.specs.declared.stop.Stop.{Stop}
use Rattle.core_terms.specs.declared.stop.Stop.TheVariants.{Deep}
use Rattle.unification.specs.Outcomes.{Outcome, steps_in}
use Rattle.unification.specs.ScopedStates.{IsReady, IsScopedProblem}
use Rattle.unification.specs.States.{Problem}
use Rattle.problems.specs.Conditions.{AreBelow}
use Rattle.case_trees.specs.Problems.{Member, member_of, problem_of}
use Rattle.case_trees.specs.Standing.{Runs}
use Rattle.tree_translation.specs.Conditions.{IsSeen}
use Rattle.tree_translation.specs.Hidden.{widened, widened_number}
use Rattle.tree_translation.specs.Laws.{Widens}
use Rattle.tree_translation.specs.Replays.{behind_step, behind_run}
use Rattle.tree_translation.specs.Splits.{Node, branch_standing}
use Rattle.tree_translation.specs.Standings.{Standing, problem_state}
use Rattle.run_terms.specs.CodeRuns.{after_step, after_run}

-- the standing that the code answers after a step is the one that is meant
abbrev pub AfterStepIsStep : Type 0
AfterStepIsStep = (S : Signature) (s : Standing) (step : Step) (next : Standing) → after_step S s step ≡ Ok next → next ≡ behind_step S s step

-- the standing that the code answers after a run is the one that is meant
abbrev pub AfterRunIsRun : Type 0
AfterRunIsRun = (S : Signature) (steps : List Step) (s last : Standing) → after_run S steps s ≡ Ok last → last ≡ behind_run S steps s

-- No other refusal than Deep is meant.
abbrev pub AfterRunOnlyDeep : Type 0
AfterRunOnlyDeep = (S : Signature) (steps : List Step) (s : Standing) (e : Stop) → after_run S steps s ≡ Err e → e ≡ Deep

-- Replaying the run of a problem from the problem's state, or from one over a whole context of which that state is what is seen, is
-- never refused: unification has tested whatever is tested again.
abbrev pub ReplayAnswers : Type 0
ReplayAnswers =
    (S : Signature) (p : Problem) (outcome : Outcome) (standing : Standing) → IsReady S → IsScopedProblem S p → Runs S p outcome →
    Widens standing (problem_state p) →
    after_run S (steps_in outcome) standing ≡ Ok (behind_run S (steps_in outcome) standing)

-- Of the state of a branch over a whole context that of the constructor's problem is seen, where the hidden variables are some of the
-- context.
abbrev pub BranchWidens : Type 0
BranchWidens =
    (S : Signature) (node : Node) (x y : ℕ) (seen : Telescope) (type reduced : Term) (whole m : Member) (number : ℕ) (c : Constructor) →
    IsSeen node.context node.hidden seen → AreBelow (length node.context) node.hidden → y < length seen →
    x ≡ widened_number (length node.context) node.hidden y → type ≡ widened (length node.context) node.hidden reduced →
    member_of S reduced ≡ Some m → member_of S type ≡ Some whole →
    Widens (branch_standing node whole x number c) (problem_state (problem_of seen y m number c))
