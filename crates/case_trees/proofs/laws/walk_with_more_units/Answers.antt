use Rattle.case_trees.proofs.MoreUnitsWalks.{walk_with_more_units}
use Rattle.case_trees.proofs.laws.walk_with_more_units.Goals as goal

pub returns : goal.returns
returns c = walk_with_more_units
