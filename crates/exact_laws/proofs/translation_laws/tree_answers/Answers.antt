use Rattle.exact_laws.proofs.translation_laws.AnsweredTrees.{tree-answers}
use Rattle.exact_laws.proofs.translation_laws.tree_answers.Goals as goal

pub returns : goal.returns
returns c = tree-answers
