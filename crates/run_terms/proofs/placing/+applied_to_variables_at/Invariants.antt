use Rattle.std.proofs.Common.{length}
use Rattle.run_terms.proofs.placing.+applied_to_variables_at.Given as goal

abbrev pub decreases-applied_to_variables_at : goal.decreases-applied_to_variables_at
decreases-applied_to_variables_at l = length l.positions.now
