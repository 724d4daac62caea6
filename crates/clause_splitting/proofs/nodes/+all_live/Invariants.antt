use Rattle.std.proofs.Common.{length}
use Rattle.clause_splitting.proofs.nodes.+all_live.Given as goal

abbrev pub decreases-all_live : goal.decreases-all_live
decreases-all_live l = length l.clauses.now
