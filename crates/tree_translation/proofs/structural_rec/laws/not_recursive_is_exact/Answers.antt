use Rattle.tree_translation.proofs.structural_rec.ChosenPositions.{not-recursive}
use Rattle.tree_translation.proofs.structural_rec.laws.not_recursive_is_exact.Goals as goal

pub returns : goal.returns
returns c = not-recursive
