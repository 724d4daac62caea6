use Rattle.exact_laws.proofs.translation_laws.FunctionTrees.{function_tree-answers}
use Rattle.exact_laws.proofs.translation_laws.function_tree_answers.Goals as goal

pub returns : goal.returns
returns c = function_tree-answers
