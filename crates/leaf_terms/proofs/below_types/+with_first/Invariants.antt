use Rattle.std.proofs.Common.{length}
use Rattle.leaf_terms.proofs.below_types.+with_first.Given as goal

abbrev pub decreases-with_first : goal.decreases-with_first
decreases-with_first l = length l.terms.now
