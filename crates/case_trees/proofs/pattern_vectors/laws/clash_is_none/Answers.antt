use Rattle.case_trees.proofs.pattern_vectors.Nothing.{clash_is_none}
use Rattle.case_trees.proofs.pattern_vectors.laws.clash_is_none.Goals as goal

pub returns : goal.returns
returns c = clash_is_none
