use Rattle.std.proofs.Common.{length}
use Rattle.clause_lines.proofs.shadowing.+shadowed_among.Given as goal

abbrev pub decreases-shadowed_among : goal.decreases-shadowed_among
decreases-shadowed_among l = length l.leaves.now
