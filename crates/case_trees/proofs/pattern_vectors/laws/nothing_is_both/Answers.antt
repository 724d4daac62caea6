use Rattle.case_trees.proofs.pattern_vectors.Nothing.{nothing_is_both}
use Rattle.case_trees.proofs.pattern_vectors.laws.nothing_is_both.Goals as goal

pub returns : goal.returns
returns c = nothing_is_both
