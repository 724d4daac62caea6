use Rattle.tree_translation.proofs.structural_rec.FixedPositions.{fixed-decides}
use Rattle.tree_translation.proofs.structural_rec.laws.fixed_are_closed.Goals as goal

pub returns : goal.returns
returns c = fixed-decides
