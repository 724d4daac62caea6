use Rattle.std.proofs.Common.{length}
use Rattle.core_terms.proofs.telescopes.+add_lifted.Given as goal

abbrev pub decreases-add_lifted : goal.decreases-add_lifted
decreases-add_lifted l = length l.tele.now
