use Rattle.std.proofs.Common.{length}
use Rattle.clause_walks.proofs.running.+run_from.Given as goal

abbrev pub decreases-run_from : goal.decreases-run_from
decreases-run_from l = length l.cons.now
