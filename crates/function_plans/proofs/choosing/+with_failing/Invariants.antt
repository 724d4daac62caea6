use Rattle.std.proofs.Common.{length}
use Rattle.function_plans.proofs.choosing.+with_failing.Given as goal

abbrev pub decreases-with_failing : goal.decreases-with_failing
decreases-with_failing l = length l.rows.now
