use Rattle.elim.proofs.memory_laws.CoreReading.{head-read}
use Rattle.elim.proofs.memory_laws.head_read_is_foreseen.Goals as goal

pub returns : goal.returns
returns c = head-read
