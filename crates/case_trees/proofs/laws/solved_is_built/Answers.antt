use Rattle.case_trees.proofs.SolvedConstructors.{solved_is_built}
use Rattle.case_trees.proofs.laws.solved_is_built.Goals as goal

pub returns : goal.returns
returns c = solved_is_built
