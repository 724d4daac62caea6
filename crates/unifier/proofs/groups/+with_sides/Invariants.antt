use Rattle.std.proofs.Common.{length}
use Rattle.unifier.proofs.groups.+with_sides.Given as goal

abbrev pub decreases-with_sides : goal.decreases-with_sides
decreases-with_sides l = length l.equations.now
