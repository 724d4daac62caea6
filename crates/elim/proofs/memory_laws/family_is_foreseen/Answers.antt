use Rattle.elim.proofs.memory_laws.Stated.{family-foreseen}
use Rattle.elim.proofs.memory_laws.family_is_foreseen.Goals as goal

pub returns : goal.returns
returns c = family-foreseen
