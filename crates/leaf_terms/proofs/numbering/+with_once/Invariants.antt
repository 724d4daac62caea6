use Rattle.std.proofs.Common.{length}
use Rattle.leaf_terms.proofs.numbering.+with_once.Given as goal

abbrev pub decreases-with_once : goal.decreases-with_once
decreases-with_once l = length l.places.now
