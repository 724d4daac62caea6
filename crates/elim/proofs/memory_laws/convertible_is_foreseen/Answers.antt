use Rattle.elim.proofs.memory_laws.Stated.{convertible-foreseen}
use Rattle.elim.proofs.memory_laws.convertible_is_foreseen.Goals as goal

pub returns : goal.returns
returns c = convertible-foreseen
