use Rattle.std.proofs.Common.{length}
use Rattle.clause_walks.proofs.dots.+with_none.Given as goal

abbrev pub decreases-with_none : goal.decreases-with_none
decreases-with_none l = length l.bound.now
