use Rattle.clause_equations.proofs.MadeEquations.{equation-made-is}
use Rattle.clause_equations.proofs.laws.equation_made_is_equation.Goals as goal

pub returns : goal.returns
returns c = equation-made-is
