use Rattle.elim.proofs.memory_laws.CoreReading.{entry-read}
use Rattle.elim.proofs.memory_laws.entry_read_is_foreseen.Goals as goal

pub returns : goal.returns
returns c = entry-read
