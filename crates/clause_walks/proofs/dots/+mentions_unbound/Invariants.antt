use Rattle.std.proofs.Common.{length}
use Rattle.clause_walks.proofs.dots.+mentions_unbound.Given as goal

abbrev pub decreases-mentions_unbound : goal.decreases-mentions_unbound
decreases-mentions_unbound l = length l.bound.now
