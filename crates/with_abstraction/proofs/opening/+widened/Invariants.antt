use Rattle.std.proofs.Common.{length}
use Rattle.with_abstraction.proofs.opening.+widened.Given as goal

abbrev pub decreases-widened : goal.decreases-widened
decreases-widened l = length l.types.now
