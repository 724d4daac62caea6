use Rattle.case_trees.proofs.TreeStanding.{splits_asked}
use Rattle.case_trees.proofs.laws.splits_asked.Goals as goal

pub returns : goal.returns
returns c = splits_asked
