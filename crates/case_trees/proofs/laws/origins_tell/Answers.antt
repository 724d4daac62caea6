use Rattle.case_trees.proofs.OriginLaws.{origins_tell}
use Rattle.case_trees.proofs.laws.origins_tell.Goals as goal

pub returns : goal.returns
returns c = origins_tell
