use Rattle.std.proofs.Common.{length}
use Rattle.clause_walks.proofs.turns.+first_solved.Given as goal

abbrev pub decreases-first_solved : goal.decreases-first_solved
decreases-first_solved l = length l.runs.now
