use Rattle.elim.proofs.memory_laws.CoreReading.{read-enters}
use Rattle.elim.proofs.memory_laws.read_entry_needs_no_memory.Goals as goal

pub returns : goal.returns
returns c = read-enters
