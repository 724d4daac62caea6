use Rattle.std.proofs.Common.{length}
use Rattle.with_abstraction.proofs.arranging.+arranged.Given as goal

abbrev pub decreases-arranged : goal.decreases-arranged
decreases-arranged l = length l.levels.now
