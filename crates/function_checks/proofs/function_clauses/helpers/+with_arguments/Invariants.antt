use Rattle.std.proofs.Common.{length}
use Rattle.function_checks.proofs.function_clauses.helpers.+with_arguments.Given as goal

abbrev pub decreases-with_arguments : goal.decreases-with_arguments
decreases-with_arguments l = length l.variables.now
