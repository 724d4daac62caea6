use Rattle.std.proofs.Common.{length}
use Rattle.run_terms.proofs.raising.+term_at.Given as goal

abbrev pub decreases-term_at : goal.decreases-term_at
decreases-term_at l = length l.terms.now
