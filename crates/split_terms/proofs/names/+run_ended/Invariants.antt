use Rattle.std.proofs.Common.{length}
use Rattle.split_terms.proofs.names.+run_ended.Given as goal

abbrev pub decreases-run_ended : goal.decreases-run_ended
decreases-run_ended l = length l.steps.now
