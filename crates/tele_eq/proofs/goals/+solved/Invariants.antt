use Rattle.std.proofs.Common.{length}
use Rattle.tele_eq.proofs.goals.+solved.Given as goal

abbrev pub decreases-solved : goal.decreases-solved
decreases-solved l = length l.positions.now
