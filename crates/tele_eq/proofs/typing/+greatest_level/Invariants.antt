use Rattle.std.proofs.Common.{length}
use Rattle.tele_eq.proofs.typing.+greatest_level.Given as goal

abbrev pub decreases-greatest_level : goal.decreases-greatest_level
decreases-greatest_level l = length l.positions.now
