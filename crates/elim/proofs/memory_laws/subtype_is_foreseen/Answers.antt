use Rattle.elim.proofs.memory_laws.Stated.{subtype-foreseen}
use Rattle.elim.proofs.memory_laws.subtype_is_foreseen.Goals as goal

pub returns : goal.returns
returns c = subtype-foreseen
