use Rattle.case_trees.proofs.pattern_vectors.Opens.{open_is_not_matched}
use Rattle.case_trees.proofs.pattern_vectors.laws.open_is_not_matched.Goals as goal

pub returns : goal.returns
returns c = open_is_not_matched
