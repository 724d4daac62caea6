use Rattle.case_trees.proofs.pattern_vectors.Opens.{neither_is_open}
use Rattle.case_trees.proofs.pattern_vectors.laws.neither_is_open.Goals as goal

pub returns : goal.returns
returns c = neither_is_open
