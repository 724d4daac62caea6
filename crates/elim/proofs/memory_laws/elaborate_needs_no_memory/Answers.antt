use Rattle.elim.proofs.memory_laws.Functions.{elaborate-needs-no-memory}
use Rattle.elim.proofs.memory_laws.elaborate_needs_no_memory.Goals as goal

pub returns : goal.returns
returns c = elaborate-needs-no-memory
