use Rattle.std.proofs.Common.{length}
use Rattle.core_terms.proofs.instantiation.+add_types.Given as goal

abbrev pub decreases-add_types : goal.decreases-add_types
decreases-add_types l = length l.tele.now
