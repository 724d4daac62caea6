use Rattle.std.proofs.Common.{length}
use Rattle.run_terms.proofs.comparisons.+with_terms.Given as goal

abbrev pub decreases-with_terms : goal.decreases-with_terms
decreases-with_terms l = length l.terms.now
