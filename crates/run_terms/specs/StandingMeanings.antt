-- The meanings of the code's states and standings.
use Rattle.std.specs.Prelude.{List, [], map}
use Rattle.core_terms.specs.Meanings.{tree_of, tele_of}
use Rattle.tele_eq.specs.Items.{item_of}
use Rattle.unification.specs.States as states
use Rattle.tree_translation.specs.Standings as pure
use Rattle.run_terms.specs.declared.state.Equation.{Equation}
use Rattle.run_terms.specs.declared.state.State.{State}
use Rattle.run_terms.specs.declared.state.Standing.{Standing}

abbrev pub equation_of : Equation → states.Equation
equation_of e = record { place = item_of e.place; type = tree_of e.ty; left = tree_of e.left; right = tree_of e.right }

abbrev pub equations_of : List Equation → List states.Equation
equations_of equations = map equation_of equations

abbrev pub state_of : State → states.State
state_of s = record { context = tele_of s.ctx; equations = equations_of s.equations; solution = [] }

abbrev pub standing_of : Standing → pure.Standing
standing_of s = record {
  state = state_of s.state;
  goal = tree_of s.goal;
  hidden = s.hidden;
  variables = s.variables;
  depth = s.depth;
}
