use Rattle.case_trees.proofs.WalkEnding.{walk_caused}
use Rattle.case_trees.proofs.laws.walk_caused.Goals as goal

pub returns : goal.returns
returns c = walk_caused
