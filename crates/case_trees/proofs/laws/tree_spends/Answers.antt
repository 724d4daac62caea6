use Rattle.case_trees.proofs.TreeUnits.{tree_spends}
use Rattle.case_trees.proofs.laws.tree_spends.Goals as goal

pub returns : goal.returns
returns c = tree_spends
