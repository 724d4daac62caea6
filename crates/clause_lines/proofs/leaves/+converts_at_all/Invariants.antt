use Rattle.std.proofs.Common.{length}
use Rattle.clause_lines.proofs.leaves.+converts_at_all.Given as goal

abbrev pub decreases-converts_at_all : goal.decreases-converts_at_all
decreases-converts_at_all l = length l.leaves.now
