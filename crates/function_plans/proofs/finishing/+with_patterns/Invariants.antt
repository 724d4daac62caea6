use Rattle.std.proofs.Common.{length}
use Rattle.function_plans.proofs.finishing.+with_patterns.Given as goal

abbrev pub decreases-with_patterns : goal.decreases-with_patterns
decreases-with_patterns l = length l.clauses.now
