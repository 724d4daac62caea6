use Rattle.std.proofs.Common.{length}
use Rattle.run_terms.proofs.moving.+new_context.Given as goal

abbrev pub decreases-new_context : goal.decreases-new_context
decreases-new_context l = length l.order.now
