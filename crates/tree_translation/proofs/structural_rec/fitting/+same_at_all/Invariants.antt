use Rattle.std.proofs.Common.{length}
use Rattle.tree_translation.proofs.structural_rec.fitting.+same_at_all.Given as goal

abbrev pub decreases-same_at_all : goal.decreases-same_at_all
decreases-same_at_all l = length l.positions.now
