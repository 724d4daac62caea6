use Rattle.case_trees.proofs.MoreUnitsWalks.{tree_with_more_units}
use Rattle.case_trees.proofs.laws.tree_with_more_units.Goals as goal

pub returns : goal.returns
returns c = tree_with_more_units
