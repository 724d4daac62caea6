use Rattle.std.proofs.Common.{length}
use Rattle.leaf_terms.proofs.right_sides.+applied_to_belows.Given as goal

abbrev pub decreases-applied_to_belows : goal.decreases-applied_to_belows
decreases-applied_to_belows l = length l.belows.now
