use Rattle.std.proofs.Common.{length}
use Rattle.tree_translation.proofs.structural_rec.positions.+positions_of.Given as goal

abbrev pub decreases-positions_of : goal.decreases-positions_of
decreases-positions_of l = length l.terms.now
