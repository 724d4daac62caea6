use Rattle.std.proofs.Common.{length}
use Rattle.run_terms.proofs.smallness.+small_items.Given as goal

abbrev pub decreases-small_items : goal.decreases-small_items
decreases-small_items l = length l.tele.now
