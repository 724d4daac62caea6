use Rattle.std.proofs.Common.{length}
use Rattle.run_terms.proofs.cycle_terms.said.+after_terms.Given as goal

abbrev pub decreases-after_terms : goal.decreases-after_terms
decreases-after_terms l = length l.terms.now
