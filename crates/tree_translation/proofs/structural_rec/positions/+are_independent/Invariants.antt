use Rattle.std.proofs.Common.{length}
use Rattle.tree_translation.proofs.structural_rec.positions.+are_independent.Given as goal

abbrev pub decreases-are_independent : goal.decreases-are_independent
decreases-are_independent l = length l.last.now
