use Rattle.elim.proofs.memory_laws.Decisions.{declared-needs-no-memory}
use Rattle.elim.proofs.memory_laws.declared_needs_no_memory.Goals as goal

pub returns : goal.returns
returns c = declared-needs-no-memory
