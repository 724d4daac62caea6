use Rattle.std.proofs.Common.{length}
use Rattle.run_terms.proofs.runs.+after_run.Given as goal

abbrev pub decreases-after_run : goal.decreases-after_run
decreases-after_run l = length l.steps.now
