use Rattle.std.proofs.Common.{length}
use Rattle.clause_walks.proofs.keeping.+copied_onto.Given as goal

abbrev pub decreases-copied_onto : goal.decreases-copied_onto
decreases-copied_onto l = length l.terms.now
