use Rattle.case_trees.proofs.TreeGoing.{tree_goes_on}
use Rattle.case_trees.proofs.laws.tree_goes_on.Goals as goal

pub returns : goal.returns
returns c = tree_goes_on
