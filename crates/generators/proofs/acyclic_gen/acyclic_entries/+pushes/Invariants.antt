use Rattle.std.proofs.Common.{length}
use Rattle.generators.proofs.acyclic_gen.acyclic_entries.+pushes.Given as goal

abbrev pub decreases-pushes : goal.decreases-pushes
decreases-pushes l = length l.directs.now
