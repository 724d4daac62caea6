use Rattle.case_trees.proofs.TreeStanding.{tree_stands}
use Rattle.case_trees.proofs.laws.tree_stands.Goals as goal

pub returns : goal.returns
returns c = tree_stands
