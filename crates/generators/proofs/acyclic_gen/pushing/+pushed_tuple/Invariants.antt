use Rattle.std.proofs.Common.{length}
use Rattle.generators.proofs.acyclic_gen.pushing.+pushed_tuple.Given as goal

abbrev pub decreases-pushed_tuple : goal.decreases-pushed_tuple
decreases-pushed_tuple l = length l.directs.now
