use Rattle.std.proofs.Common.{length}
use Rattle.function_checks.proofs.walk_checks.dots.+check_dots.Given as goal

abbrev pub decreases-check_dots : goal.decreases-check_dots
decreases-check_dots l = length l.dots.now
