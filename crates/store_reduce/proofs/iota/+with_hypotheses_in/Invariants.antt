use Rattle.std.proofs.Common.{length}
use Rattle.store_reduce.proofs.iota.+with_hypotheses_in.Given as goal

abbrev pub decreases-with_hypotheses_in : goal.decreases-with_hypotheses_in
decreases-with_hypotheses_in g l = length l.args.now
