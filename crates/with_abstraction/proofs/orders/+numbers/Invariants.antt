use Rattle.std.proofs.Common.{length}
use Rattle.with_abstraction.proofs.orders.+numbers.Given as goal

abbrev pub decreases-numbers : goal.decreases-numbers
decreases-numbers l = length l.levels.now
