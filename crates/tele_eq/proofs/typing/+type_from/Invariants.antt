use Rattle.std.proofs.Common.{length}
use Rattle.tele_eq.proofs.typing.+type_from.Given as goal

abbrev pub decreases-type_from : goal.decreases-type_from
decreases-type_from l = length l.tele.now
