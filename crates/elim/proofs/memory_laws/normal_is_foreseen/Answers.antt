use Rattle.elim.proofs.memory_laws.Stated.{normal-foreseen}
use Rattle.elim.proofs.memory_laws.normal_is_foreseen.Goals as goal

pub returns : goal.returns
returns c = normal-foreseen
