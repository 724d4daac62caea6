use Rattle.std.proofs.Common.{length}
use Rattle.tree_translation.proofs.structural_rec.choosing.+first_usable.Given as goal

abbrev pub decreases-first_usable : goal.decreases-first_usable
decreases-first_usable l = length l.rest.now
