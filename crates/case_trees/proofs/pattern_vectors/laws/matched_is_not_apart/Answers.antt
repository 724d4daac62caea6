use Rattle.case_trees.proofs.pattern_vectors.Separate.{matched_is_not_apart}
use Rattle.case_trees.proofs.pattern_vectors.laws.matched_is_not_apart.Goals as goal

pub returns : goal.returns
returns c = matched_is_not_apart
