use Rattle.case_trees.proofs.SpentUnits.{walk_spends}
use Rattle.case_trees.proofs.laws.walk_spends.Goals as goal

pub returns : goal.returns
returns c = walk_spends
