use Rattle.std.proofs.Common.{length}
use Rattle.leaf_terms.proofs.below_values.+with_belows_under.Given as goal

abbrev pub decreases-with_belows_under : goal.decreases-with_belows_under
decreases-with_belows_under l = length l.belows.now
