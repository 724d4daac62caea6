use Rattle.elim.proofs.memory_laws.Stated.{definition-foreseen}
use Rattle.elim.proofs.memory_laws.definition_is_foreseen.Goals as goal

pub returns : goal.returns
returns c = definition-foreseen
