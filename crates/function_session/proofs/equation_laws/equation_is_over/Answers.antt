use Rattle.function_session.proofs.equation_laws.EquationScopes.{equation-is_over}
use Rattle.function_session.proofs.equation_laws.equation_is_over.Goals as goal

pub returns : goal.returns
returns c = equation-is_over
