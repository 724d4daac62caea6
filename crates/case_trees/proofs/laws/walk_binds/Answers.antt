use Rattle.case_trees.proofs.OwnWalkLaws.{walk_binds}
use Rattle.case_trees.proofs.laws.walk_binds.Goals as goal

pub returns : goal.returns
returns c = walk_binds
