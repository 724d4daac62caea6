use Rattle.case_trees.proofs.WalkEnding.{walk_ends}
use Rattle.case_trees.proofs.laws.walk_ends.Goals as goal

pub returns : goal.returns
returns c = walk_ends
