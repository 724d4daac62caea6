use Rattle.std.proofs.Common.{length}
use Rattle.tree_translation.proofs.structural_rec.positions.+mentions_one.Given as goal

abbrev pub decreases-mentions_one : goal.decreases-mentions_one
decreases-mentions_one l = length l.positions.now
