use Rattle.exact_laws.proofs.own_scopes.PlainFunctions.{plain_function_scoped}
use Rattle.exact_laws.proofs.own_scopes.plain_function_scoped.Goals as goal

pub returns : goal.returns
returns c = plain_function_scoped
