use Rattle.std.proofs.Common.{length}
use Rattle.with_abstraction.proofs.orders.+behind_from.Given as goal

abbrev pub decreases-behind_from : goal.decreases-behind_from
decreases-behind_from l = length l.types.now
