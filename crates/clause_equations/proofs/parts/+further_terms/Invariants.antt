use Rattle.std.proofs.Common.{length}
use Rattle.clause_equations.proofs.parts.+further_terms.Given as goal

abbrev pub decreases-further_terms : goal.decreases-further_terms
decreases-further_terms l = length l.terms.now
