use Rattle.case_trees.proofs.WalkEnding.{walk_scoped}
use Rattle.case_trees.proofs.laws.walk_scoped.Goals as goal

pub returns : goal.returns
returns c = walk_scoped
