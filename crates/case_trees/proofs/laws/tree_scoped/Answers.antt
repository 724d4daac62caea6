use Rattle.case_trees.proofs.TreeStanding.{tree_scoped}
use Rattle.case_trees.proofs.laws.tree_scoped.Goals as goal

pub returns : goal.returns
returns c = tree_scoped
