use Rattle.std.proofs.Common.{length}
use Rattle.leaf_terms.proofs.numbering.+with_names_at.Given as goal

abbrev pub decreases-with_names_at : goal.decreases-with_names_at
decreases-with_names_at l = length l.places.now
