use Rattle.std.proofs.Common.{length}
use Rattle.unifier.proofs.groups.+have_nearest.Given as goal

abbrev pub decreases-have_nearest : goal.decreases-have_nearest
decreases-have_nearest l = length l.terms.now
