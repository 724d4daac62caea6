use Rattle.elim.proofs.memory_laws.Stated.{check-foreseen}
use Rattle.elim.proofs.memory_laws.check_is_foreseen.Goals as goal

pub returns : goal.returns
returns c = check-foreseen
