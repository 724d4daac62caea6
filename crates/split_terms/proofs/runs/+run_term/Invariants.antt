use Rattle.std.proofs.Common.{length}
use Rattle.split_terms.proofs.runs.+run_term.Given as goal

abbrev pub decreases-run_term : goal.decreases-run_term
decreases-run_term l = length l.steps.now
