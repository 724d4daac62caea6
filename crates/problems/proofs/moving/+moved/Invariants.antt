use Rattle.std.proofs.Common.{length}
use Rattle.problems.proofs.moving.+moved.Given as goal

abbrev pub decreases-moved : goal.decreases-moved
decreases-moved l = length l.equations.now
