use Rattle.tree_translation.proofs.structural_rec.LowerParts.{part-lower}
use Rattle.tree_translation.proofs.structural_rec.laws.parts_are_lower.Goals as goal

pub returns : goal.returns
returns c = λ n f part t is. part-lower n f part is
