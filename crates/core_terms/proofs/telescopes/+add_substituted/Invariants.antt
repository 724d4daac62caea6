use Rattle.std.proofs.Common.{length}
use Rattle.core_terms.proofs.telescopes.+add_substituted.Given as goal

abbrev pub decreases-add_substituted : goal.decreases-add_substituted
decreases-add_substituted l = length l.tele.now
