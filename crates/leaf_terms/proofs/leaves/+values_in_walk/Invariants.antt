use Rattle.std.proofs.Common.{length}
use Rattle.leaf_terms.proofs.leaves.+values_in_walk.Given as goal

abbrev pub decreases-values_in_walk : goal.decreases-values_in_walk
decreases-values_in_walk l = length l.walks.now
