-- The meanings of the code's problems and outcomes.
use Rattle.std.specs.Prelude.{List, map}
use Rattle.core_terms.specs.Meanings.{tree_of, tele_of}
use Rattle.core_terms.specs.TreeMeanings.{step_of, steps_of}
use Rattle.tele_eq.specs.Items.{item_of, items_of}
use Rattle.unification.specs.States as pure
use Rattle.unification.specs.Outcomes as ends
use Rattle.unification.specs.Turns as turns
use Rattle.problems.specs.declared.problem.Problem.{Problem}
use Rattle.problems.specs.declared.state.Equation.{Equation}
use Rattle.problems.specs.declared.state.State.{State}
use Rattle.problems.specs.declared.turn.Turn.{Turn}
use Rattle.problems.specs.declared.turn.Turn.TheVariants as turn
use Rattle.problems.specs.declared.outcome.Outcome.{Outcome}
use Rattle.problems.specs.declared.outcome.Outcome.TheVariants.{Solved, Absurd, Stuck}

abbrev pub problem_of : Problem → pure.Problem
problem_of p = record {
  context = tele_of p.ctx;
  telescope = items_of p.tele;
  left = tele_of p.left;
  right = tele_of p.right;
}

abbrev pub outcome_of : Outcome → ends.Outcome
outcome_of (Solved steps ctx subst) = ends.Solved (steps_of steps) (tele_of ctx) (tele_of subst)
outcome_of (Absurd steps ctx left right) = ends.Absurd (steps_of steps) (tele_of ctx) (tree_of left) (tree_of right)
outcome_of (Stuck steps ctx left right why) = ends.Stuck (steps_of steps) (tele_of ctx) (tree_of left) (tree_of right) why

abbrev pub equation_of : Equation → pure.Equation
equation_of e = record { place = item_of e.place; type = tree_of e.ty; left = tree_of e.left; right = tree_of e.right }

abbrev pub equations_of : List Equation → List pure.Equation
equations_of equations = map equation_of equations

abbrev pub state_of : State → pure.State
state_of s = record { context = tele_of s.ctx; equations = equations_of s.equations; solution = tele_of s.subst }

abbrev pub turn_of : Turn → turns.Turn
turn_of turn.Done = turns.Done
turn_of (turn.Goes step next) = turns.Goes (step_of step) (state_of next.value)
turn_of (turn.Fails step left right) = turns.Fails (step_of step) (tree_of left) (tree_of right)
turn_of (turn.Sticks why left right) = turns.Sticks why (tree_of left) (tree_of right)
