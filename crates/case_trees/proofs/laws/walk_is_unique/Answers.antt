use Rattle.case_trees.proofs.MoreUnitsWalks.{walk_is_unique}
use Rattle.case_trees.proofs.laws.walk_is_unique.Goals as goal

pub returns : goal.returns
returns c = walk_is_unique
