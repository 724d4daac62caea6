use Rattle.std.proofs.Common.{length}
use Rattle.leaf_terms.proofs.below_types.+with_terms_at.Given as goal

abbrev pub decreases-with_terms_at : goal.decreases-with_terms_at
decreases-with_terms_at l = length l.positions.now
