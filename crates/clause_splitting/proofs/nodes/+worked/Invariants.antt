use Rattle.std.proofs.Common.{length}
use Rattle.clause_splitting.proofs.nodes.+worked.Given as goal

abbrev pub decreases-worked : goal.decreases-worked
decreases-worked l = length l.live.now
