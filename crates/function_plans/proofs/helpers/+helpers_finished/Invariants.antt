use Rattle.std.proofs.Common.{length}
use Rattle.function_plans.proofs.helpers.+helpers_finished.Given as goal

abbrev pub decreases-helpers_finished : goal.decreases-helpers_finished
decreases-helpers_finished l = length l.helpers.items
