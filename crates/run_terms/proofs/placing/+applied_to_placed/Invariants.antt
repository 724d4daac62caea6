use Rattle.std.proofs.Common.{length}
use Rattle.run_terms.proofs.placing.+applied_to_placed.Given as goal

abbrev pub decreases-applied_to_placed : goal.decreases-applied_to_placed
decreases-applied_to_placed l = length l.terms.now
