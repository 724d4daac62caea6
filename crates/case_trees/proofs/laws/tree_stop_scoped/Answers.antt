use Rattle.case_trees.proofs.TreeStanding.{tree_stop_scoped}
use Rattle.case_trees.proofs.laws.tree_stop_scoped.Goals as goal

pub returns : goal.returns
returns c = tree_stop_scoped
