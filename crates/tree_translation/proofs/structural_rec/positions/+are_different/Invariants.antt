use Rattle.std.proofs.Common.{length}
use Rattle.tree_translation.proofs.structural_rec.positions.+are_different.Given as goal

abbrev pub decreases-are_different : goal.decreases-are_different
decreases-are_different l = length l.positions.now
