use Rattle.case_trees.proofs.WalkEnding.{walk_stands}
use Rattle.case_trees.proofs.laws.walk_stands.Goals as goal

pub returns : goal.returns
returns c = walk_stands
