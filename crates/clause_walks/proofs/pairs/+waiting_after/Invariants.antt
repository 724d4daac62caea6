use Rattle.std.proofs.Common.{length}
use Rattle.clause_walks.proofs.pairs.+waiting_after.Given as goal

abbrev pub decreases-waiting_after : goal.decreases-waiting_after
decreases-waiting_after l = length l.pats.now
