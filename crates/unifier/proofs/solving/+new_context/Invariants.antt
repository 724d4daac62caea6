use Rattle.std.proofs.Common.{length}
use Rattle.unifier.proofs.solving.+new_context.Given as goal

abbrev pub decreases-new_context : goal.decreases-new_context
decreases-new_context l = length l.order.now
