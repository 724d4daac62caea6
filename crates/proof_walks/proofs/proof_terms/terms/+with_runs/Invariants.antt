use Rattle.std.proofs.Common.{length}
use Rattle.proof_walks.proofs.proof_terms.terms.+with_runs.Given as goal

abbrev pub decreases-with_runs : goal.decreases-with_runs
decreases-with_runs l = length l.runs.now
