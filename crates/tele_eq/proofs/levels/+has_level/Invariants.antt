use Rattle.std.proofs.Common.{length}
use Rattle.tele_eq.proofs.levels.+has_level.Given as goal

abbrev pub decreases-has_level : goal.decreases-has_level
decreases-has_level l = length l.levels.now
