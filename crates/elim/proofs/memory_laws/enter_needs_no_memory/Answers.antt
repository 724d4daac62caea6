use Rattle.elim.proofs.memory_laws.Declared.{enter-needs-no-memory}
use Rattle.elim.proofs.memory_laws.enter_needs_no_memory.Goals as goal

pub returns : goal.returns
returns c = enter-needs-no-memory
