use Rattle.clause_equations.proofs.MadeEquations.{equation-is-deep}
use Rattle.clause_equations.proofs.laws.equation_is_deep.Goals as goal

pub returns : goal.returns
returns c = equation-is-deep
