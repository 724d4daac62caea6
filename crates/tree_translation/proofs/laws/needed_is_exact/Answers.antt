use Rattle.tree_translation.proofs.Needs.{needed_is_exact}
use Rattle.tree_translation.proofs.laws.needed_is_exact.Goals as goal

pub returns : goal.returns
returns c = needed_is_exact
