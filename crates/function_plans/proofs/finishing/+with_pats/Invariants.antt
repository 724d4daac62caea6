use Rattle.std.proofs.Common.{length}
use Rattle.function_plans.proofs.finishing.+with_pats.Given as goal

abbrev pub decreases-with_pats : goal.decreases-with_pats
decreases-with_pats l = length l.pats.now
