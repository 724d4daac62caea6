use Rattle.elim.proofs.memory_laws.Stated.{function-foreseen}
use Rattle.elim.proofs.memory_laws.function_is_foreseen.Goals as goal

pub returns : goal.returns
returns c = function-foreseen
