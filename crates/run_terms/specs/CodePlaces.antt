-- The meanings of the code's places.
use Rattle.std.specs.Prelude.{Option, Some, None}
use Rattle.core_terms.specs.Levels.{variable}
use Rattle.core_terms.specs.Meanings.{tele_of}
use Rattle.theory.specs.Terms.{Term}
use Rattle.tele_eq.specs.Environments.{Environment, put}
use Rattle.unification.specs.Moving.{over_first, behind}
use Rattle.unification.specs.Solving.{reordered}
use Rattle.problems.specs.CodeMoves.{solved_environment}
use Rattle.problems.specs.declared.moving.Solution.{Solution}
use Rattle.tree_translation.specs.Standings.{at_levels}
use Rattle.run_terms.specs.declared.moving.Sides.{Sides}
use Rattle.run_terms.specs.declared.moving.Sides.TheVariants as side
use Rattle.run_terms.specs.declared.places.After.{After}
use Rattle.run_terms.specs.declared.places.Places.{Places}
use Rattle.run_terms.specs.declared.places.Places.TheVariants as place

-- the variables of the context: they stay, or one is solved
abbrev pub variables_of : Option Solution → Environment
variables_of None = variable
variables_of (Some s) = solved_environment s

abbrev pub after_environment : After → Environment
after_environment a = behind a.size a.count a.new (variables_of a.solution) (over_first a.over (tele_of a.terms.now))

abbrev pub environment_of : Places → Environment
environment_of (place.Levels levels) = at_levels levels.now
environment_of (place.Reordered order) = reordered order.now
environment_of (place.Solved s) = solved_environment s
environment_of (place.After a) = after_environment a

abbrev pub side_of : Sides → Term → Term
side_of side.Same t = t
side_of (side.Solved s depth) t = put (solved_environment s) s.size depth t
