use Rattle.std.proofs.Common.{length}
use Rattle.clause_lines.proofs.clause.+match_at.Given as goal

abbrev pub decreases-match_at : goal.decreases-match_at
decreases-match_at l = length l.pats.now
