use Rattle.std.proofs.Common.{length}
use Rattle.leaf_terms.proofs.below_values.+after_first.Given as goal

abbrev pub decreases-after_first : goal.decreases-after_first
decreases-after_first l = length l.terms.now
