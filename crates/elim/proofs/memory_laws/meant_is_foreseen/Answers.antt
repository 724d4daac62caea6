use Rattle.elim.proofs.memory_laws.Meant.{meant-foreseen}
use Rattle.elim.proofs.memory_laws.meant_is_foreseen.Goals as goal

pub returns : goal.returns
returns c = meant-foreseen
