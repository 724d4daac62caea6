use Rattle.std.proofs.Common.{length}
use Rattle.clause_equations.proofs.shadow_vectors.vectors.+copied_onto.Given as goal

abbrev pub decreases-copied_onto : goal.decreases-copied_onto
decreases-copied_onto l = length l.terms.now
