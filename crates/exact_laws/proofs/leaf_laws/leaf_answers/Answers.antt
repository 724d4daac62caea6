use Rattle.exact_laws.proofs.leaf_laws.ExactLeaves.{leaf-answers}
use Rattle.exact_laws.proofs.leaf_laws.leaf_answers.Goals as goal

pub returns : goal.returns
returns c = leaf-answers
