use Rattle.std.proofs.Common.{length}
use Rattle.tree_translation.proofs.structural_rec.positions.+in_type.Given as goal

abbrev pub decreases-in_type : goal.decreases-in_type
decreases-in_type l = length l.tele.now
