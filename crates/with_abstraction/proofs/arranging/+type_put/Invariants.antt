use Rattle.std.proofs.Common.{length}
use Rattle.with_abstraction.proofs.arranging.+type_put.Given as goal

abbrev pub decreases-type_put : goal.decreases-type_put
decreases-type_put l = length l.types.now
