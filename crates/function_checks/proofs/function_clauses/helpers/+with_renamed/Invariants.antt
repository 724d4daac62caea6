use Rattle.std.proofs.Common.{length}
use Rattle.function_checks.proofs.function_clauses.helpers.+with_renamed.Given as goal

abbrev pub decreases-with_renamed : goal.decreases-with_renamed
decreases-with_renamed l = length l.terms.now
