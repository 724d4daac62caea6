use Rattle.function_session.proofs.plan_laws.SameTrees.{same-trees}
use Rattle.function_session.proofs.plan_laws.same_trees.Goals as goal

pub returns : goal.returns
returns c = same-trees
