use Rattle.std.proofs.Common.{length}
use Rattle.leaf_terms.proofs.below_values.+with_values.Given as goal

abbrev pub decreases-with_values : goal.decreases-with_values
decreases-with_values l = length l.places.now
