use Rattle.std.proofs.Common.{length}
use Rattle.function_plans.proofs.smallness.+small_uses.Given as goal

abbrev pub decreases-small_uses : goal.decreases-small_uses
decreases-small_uses l = length l.uses.now
