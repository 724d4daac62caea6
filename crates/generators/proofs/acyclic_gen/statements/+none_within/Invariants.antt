use Rattle.std.proofs.Common.{length}
use Rattle.generators.proofs.acyclic_gen.statements.+none_within.Given as goal

abbrev pub decreases-none_within : goal.decreases-none_within
decreases-none_within l = length l.directs.now
