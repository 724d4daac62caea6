use Rattle.std.proofs.Common.{length}
use Rattle.problems.proofs.heights.+are_low_items.Given as goal

abbrev pub decreases-are_low_items : goal.decreases-are_low_items
decreases-are_low_items l = length l.tele.now
