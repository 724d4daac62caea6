use Rattle.std.proofs.Common.{length}
use Rattle.clause_splitting.proofs.nodes.+patterns_left.Given as goal

abbrev pub decreases-patterns_left : goal.decreases-patterns_left
decreases-patterns_left l = length l.live.now
