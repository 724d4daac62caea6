use Rattle.std.proofs.Common.{length}
use Rattle.with_abstraction.proofs.orders.+appended.Given as goal

abbrev pub decreases-appended : goal.decreases-appended
decreases-appended l = length l.levels.now
