use Rattle.tree_translation.proofs.structural_rec.LowerParts.{finitary-lower}
use Rattle.tree_translation.proofs.structural_rec.laws.finitary_parts_are_lower.Goals as goal

pub returns : goal.returns
returns c = λ n f part t finitary is. finitary-lower n f part finitary is
