use Rattle.theory.proofs.Validity.{function_types}
use Rattle.theory.proofs.typing_laws.function_types.Goals as goal

pub returns : goal.returns
returns c = function_types
