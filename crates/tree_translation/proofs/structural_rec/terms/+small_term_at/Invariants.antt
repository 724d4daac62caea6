use Rattle.std.proofs.Common.{length}
use Rattle.tree_translation.proofs.structural_rec.terms.+small_term_at.Given as goal

abbrev pub decreases-small_term_at : goal.decreases-small_term_at
decreases-small_term_at l = length l.terms.now
