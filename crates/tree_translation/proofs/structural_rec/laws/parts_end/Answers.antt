use Rattle.tree_translation.proofs.structural_rec.LowerParts.{parts-end}
use Rattle.tree_translation.proofs.structural_rec.laws.parts_end.Goals as goal

pub returns : goal.returns
returns c = parts-end
