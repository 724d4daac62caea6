use Rattle.tree_translation.proofs.structural_rec.ChosenPositions.{not-smaller}
use Rattle.tree_translation.proofs.structural_rec.laws.not_smaller_is_exact.Goals as goal

pub returns : goal.returns
returns c = not-smaller
