use Rattle.case_trees.proofs.pattern_vectors.Staying.{all-stay}
use Rattle.case_trees.proofs.pattern_vectors.laws.matched_stays.Goals as goal

pub returns : goal.returns
returns c = all-stay
