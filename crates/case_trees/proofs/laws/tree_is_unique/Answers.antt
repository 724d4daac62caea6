use Rattle.case_trees.proofs.MoreUnitsWalks.{tree_is_unique}
use Rattle.case_trees.proofs.laws.tree_is_unique.Goals as goal

pub returns : goal.returns
returns c = tree_is_unique
