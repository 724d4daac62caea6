use Rattle.std.proofs.Common.{length}
use Rattle.leaf_terms.proofs.calls.+term_or.Given as goal

abbrev pub decreases-term_or : goal.decreases-term_or
decreases-term_or l = length l.terms.now
