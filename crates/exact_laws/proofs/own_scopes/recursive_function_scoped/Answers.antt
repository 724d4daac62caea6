use Rattle.exact_laws.proofs.own_scopes.RecursiveFunctions.{recursive_function_scoped}
use Rattle.exact_laws.proofs.own_scopes.recursive_function_scoped.Goals as goal

pub returns : goal.returns
returns c = recursive_function_scoped
