use Rattle.std.proofs.Common.{length}
use Rattle.run_terms.proofs.comparisons.+with_right_sides.Given as goal

abbrev pub decreases-with_right_sides : goal.decreases-with_right_sides
decreases-with_right_sides l = length l.equations.now
