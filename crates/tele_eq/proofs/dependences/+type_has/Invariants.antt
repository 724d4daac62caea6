use Rattle.std.proofs.Common.{length}
use Rattle.tele_eq.proofs.dependences.+type_has.Given as goal

abbrev pub decreases-type_has : goal.decreases-type_has
decreases-type_has l = length l.tele.now
