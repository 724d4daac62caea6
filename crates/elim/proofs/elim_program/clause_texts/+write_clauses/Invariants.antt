use Rattle.std.proofs.Common.{length}
use Rattle.elim.proofs.elim_program.clause_texts.+write_clauses.Given as goal

abbrev pub decreases-write_clauses : goal.decreases-write_clauses
decreases-write_clauses l = length l.clauses.now
