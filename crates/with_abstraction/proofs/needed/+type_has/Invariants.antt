use Rattle.std.proofs.Common.{length}
use Rattle.with_abstraction.proofs.needed.+type_has.Given as goal

abbrev pub decreases-type_has : goal.decreases-type_has
decreases-type_has l = length l.types.now
