use Rattle.case_trees.proofs.pattern_vectors.Staying.{apart_stays}
use Rattle.case_trees.proofs.pattern_vectors.laws.apart_stays.Goals as goal

pub returns : goal.returns
returns c = apart_stays
