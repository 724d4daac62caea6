use Rattle.std.proofs.Common.{length}
use Rattle.elim.proofs.elim_program.clause_texts.+write_terms.Given as goal

abbrev pub decreases-write_terms : goal.decreases-write_terms
decreases-write_terms l = length l.terms.now
