use Rattle.case_trees.proofs.pattern_vectors.Meets.{meet_is_both}
use Rattle.case_trees.proofs.pattern_vectors.laws.meet_is_both.Goals as goal

pub returns : goal.returns
returns c = meet_is_both
