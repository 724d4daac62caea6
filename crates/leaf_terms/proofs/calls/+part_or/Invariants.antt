use Rattle.std.proofs.Common.{length}
use Rattle.leaf_terms.proofs.calls.+part_or.Given as goal

abbrev pub decreases-part_or : goal.decreases-part_or
decreases-part_or l = length l.arguments.now
