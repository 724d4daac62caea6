use Rattle.std.proofs.Common.{length}
use Rattle.decide_eq.proofs.plain.+offence.Given as goal

abbrev pub decreases-offence : goal.decreases-offence
decreases-offence l = length l.cons.now
