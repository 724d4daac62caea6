use Rattle.std.proofs.Common.{length}
use Rattle.problems.proofs.heights.+are_low_equations.Given as goal

abbrev pub decreases-are_low_equations : goal.decreases-are_low_equations
decreases-are_low_equations l = length l.equations.now
