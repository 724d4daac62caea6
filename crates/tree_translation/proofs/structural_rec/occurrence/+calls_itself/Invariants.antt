use Rattle.std.proofs.Common.{length}
use Rattle.tree_translation.proofs.structural_rec.occurrence.+calls_itself.Given as goal

abbrev pub decreases-calls_itself : goal.decreases-calls_itself
decreases-calls_itself l = length l.uses.now
