use Rattle.std.proofs.Common.{length}
use Rattle.problems.proofs.state.+equations_at.Given as goal

abbrev pub decreases-equations_at : goal.decreases-equations_at
decreases-equations_at l = length l.tele.now
