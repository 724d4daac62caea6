use Rattle.exact_laws.proofs.translation_laws.FunctionTrees.{function_tree_names-answer}
use Rattle.exact_laws.proofs.translation_laws.function_tree_names_answer.Goals as goal

pub returns : goal.returns
returns c = function_tree_names-answer
