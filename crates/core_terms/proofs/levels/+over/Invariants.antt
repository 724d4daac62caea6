use Rattle.std.proofs.Common.{length}
use Rattle.core_terms.proofs.levels.+over.Given as goal

abbrev pub decreases-over : goal.decreases-over
decreases-over l = length l.tele.now
