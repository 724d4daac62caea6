use Rattle.std.proofs.Common.{length}
use Rattle.problems.proofs.moving.+term_at.Given as goal

abbrev pub decreases-term_at : goal.decreases-term_at
decreases-term_at l = length l.terms.now
