use Rattle.function_session.proofs.equation_laws.ProvedClauses.{proved-is_typed}
use Rattle.function_session.proofs.equation_laws.proved_is_typed.Goals as goal

pub returns : goal.returns
returns c = proved-is_typed
