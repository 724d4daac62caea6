use Rattle.case_trees.proofs.WalkEnding.{walk_stop_scoped}
use Rattle.case_trees.proofs.laws.walk_stop_scoped.Goals as goal

pub returns : goal.returns
returns c = walk_stop_scoped
