use Rattle.tree_translation.proofs.structural_rec.ChosenPositions.{least-usable}
use Rattle.tree_translation.proofs.structural_rec.laws.at_is_least_usable.Goals as goal

pub returns : goal.returns
returns c = least-usable
