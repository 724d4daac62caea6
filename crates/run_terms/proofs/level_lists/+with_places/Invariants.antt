use Rattle.std.proofs.Common.{length}
use Rattle.run_terms.proofs.level_lists.+with_places.Given as goal

abbrev pub decreases-with_places : goal.decreases-with_places
decreases-with_places l = length l.levels.now
