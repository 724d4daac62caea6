use Rattle.std.proofs.Common.{length}
use Rattle.tele_eq.proofs.typing.+level_at.Given as goal

abbrev pub decreases-level_at : goal.decreases-level_at
decreases-level_at l = length l.tele.now
