use Rattle.std.proofs.Common.{length}
use Rattle.run_terms.proofs.injecting.+equations_at.Given as goal

abbrev pub decreases-equations_at : goal.decreases-equations_at
decreases-equations_at l = length l.tele.now
