use Rattle.case_trees.proofs.TreeStanding.{tree_caused}
use Rattle.case_trees.proofs.laws.tree_caused.Goals as goal

pub returns : goal.returns
returns c = tree_caused
