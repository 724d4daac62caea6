use Rattle.std.proofs.Common.{length}
use Rattle.clause_walks.proofs.dots.+walked_onto.Given as goal

abbrev pub decreases-walked_onto : goal.decreases-walked_onto
decreases-walked_onto l = length l.dots.now
