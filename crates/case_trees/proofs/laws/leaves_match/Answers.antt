use Rattle.case_trees.proofs.TreeMatching.{leaves_match}
use Rattle.case_trees.proofs.laws.leaves_match.Goals as goal

pub returns : goal.returns
returns c = leaves_match
