use Rattle.case_trees.proofs.TreeMatching.{first_match}
use Rattle.case_trees.proofs.laws.first_match.Goals as goal

pub returns : goal.returns
returns c = first_match
