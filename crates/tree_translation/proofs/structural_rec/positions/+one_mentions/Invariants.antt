use Rattle.std.proofs.Common.{length}
use Rattle.tree_translation.proofs.structural_rec.positions.+one_mentions.Given as goal

abbrev pub decreases-one_mentions : goal.decreases-one_mentions
decreases-one_mentions l = length l.positions.now
