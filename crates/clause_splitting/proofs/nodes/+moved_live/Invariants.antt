use Rattle.std.proofs.Common.{length}
use Rattle.clause_splitting.proofs.nodes.+moved_live.Given as goal

abbrev pub decreases-moved_live : goal.decreases-moved_live
decreases-moved_live l = length l.live.now
