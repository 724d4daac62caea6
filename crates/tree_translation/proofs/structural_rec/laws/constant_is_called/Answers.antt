use Rattle.tree_translation.proofs.structural_rec.Occurrences.{called}
use Rattle.tree_translation.proofs.structural_rec.laws.constant_is_called.Goals as goal

pub returns : goal.returns
returns c = called
