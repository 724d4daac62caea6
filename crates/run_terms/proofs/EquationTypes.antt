-- How many types equations have.
use Rattle.std.proofs.Common.{◌≡◌, List, [], ◌∷◌, length, refl, arith}
use Rattle.unification.specs.States.{types_as_they_stand}
use Rattle.run_terms.specs.StandingMeanings.{equations_of}
use Rattle.run_terms.specs.declared.state.Equation.{Equation}

pub type-count : (equations : List Equation) → length (types_as_they_stand (equations_of equations)) ≡ length equations
type-count [] = refl
type-count (e ∷ equations) = omega (arith, type-count equations)

pub ruleset type_counts = (type-count)
