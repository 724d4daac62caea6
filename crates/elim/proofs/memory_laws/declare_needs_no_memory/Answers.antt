use Rattle.elim.proofs.memory_laws.Declared.{declare-needs-no-memory}
use Rattle.elim.proofs.memory_laws.declare_needs_no_memory.Goals as goal

pub returns : goal.returns
returns c = declare-needs-no-memory
