use Rattle.std.proofs.Common.{length}
use Rattle.function_checks.proofs.function_clauses.helpers.+with_vars.Given as goal

abbrev pub decreases-with_vars : goal.decreases-with_vars
decreases-with_vars l = length l.variables.now
