use Rattle.case_trees.proofs.OwnWalkLaws.{walk_keeps_all_dots}
use Rattle.case_trees.proofs.laws.walk_keeps_all_dots.Goals as goal

pub returns : goal.returns
returns c = walk_keeps_all_dots
