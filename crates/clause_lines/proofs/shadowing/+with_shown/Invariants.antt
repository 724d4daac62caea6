use Rattle.std.proofs.Common.{length}
use Rattle.clause_lines.proofs.shadowing.+with_shown.Given as goal

abbrev pub decreases-with_shown : goal.decreases-with_shown
decreases-with_shown l = length l.leaves.now
