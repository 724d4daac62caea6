use Rattle.std.proofs.Common.{length}
use Rattle.leaf_terms.proofs.below_values.+with_belows.Given as goal

abbrev pub decreases-with_belows : goal.decreases-with_belows
decreases-with_belows l = length l.hidden.now
