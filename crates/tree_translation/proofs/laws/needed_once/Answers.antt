use Rattle.tree_translation.proofs.Needs.{needed_once}
use Rattle.tree_translation.proofs.laws.needed_once.Goals as goal

pub returns : goal.returns
returns c = needed_once
