use Rattle.clause_equations.proofs.MadeEquations.{equation-is-made}
use Rattle.clause_equations.proofs.laws.equation_is_made.Goals as goal

pub returns : goal.returns
returns c = equation-is-made
