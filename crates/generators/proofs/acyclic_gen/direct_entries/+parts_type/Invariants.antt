use Rattle.std.proofs.Common.{length}
use Rattle.generators.proofs.acyclic_gen.direct_entries.+parts_type.Given as goal

abbrev pub decreases-parts_type : goal.decreases-parts_type
decreases-parts_type l = length l.directs.now
