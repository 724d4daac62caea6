use Rattle.std.proofs.Common.{length}
use Rattle.clause_splitting.proofs.origins.+origins_at.Given as goal

abbrev pub decreases-origins_at : goal.decreases-origins_at
decreases-origins_at l = length l.order.now
