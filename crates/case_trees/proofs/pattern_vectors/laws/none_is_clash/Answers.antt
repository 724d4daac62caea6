use Rattle.case_trees.proofs.pattern_vectors.Nothing.{none_is_clash}
use Rattle.case_trees.proofs.pattern_vectors.laws.none_is_clash.Goals as goal

pub returns : goal.returns
returns c = none_is_clash
