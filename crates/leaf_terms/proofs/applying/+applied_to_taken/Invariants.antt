use Rattle.std.proofs.Common.{length}
use Rattle.leaf_terms.proofs.applying.+applied_to_taken.Given as goal

abbrev pub decreases-applied_to_taken : goal.decreases-applied_to_taken
decreases-applied_to_taken l = length l.positions.now
