use Rattle.std.proofs.Common.{length}
use Rattle.unifier.proofs.groups.+are_nearest.Given as goal

abbrev pub decreases-are_nearest : goal.decreases-are_nearest
decreases-are_nearest l = length l.terms.now
