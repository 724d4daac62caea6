use Rattle.case_trees.proofs.WalkGoing.{walk_goes_on}
use Rattle.case_trees.proofs.laws.walk_goes_on.Goals as goal

pub returns : goal.returns
returns c = walk_goes_on
