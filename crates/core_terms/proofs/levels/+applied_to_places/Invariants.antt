use Rattle.std.proofs.Common.{length}
use Rattle.core_terms.proofs.levels.+applied_to_places.Given as goal

abbrev pub decreases-applied_to_places : goal.decreases-applied_to_places
decreases-applied_to_places l = length l.terms.now
