use Rattle.exact_laws.proofs.translation_laws.AnsweredTreeNames.{tree_names-answer}
use Rattle.exact_laws.proofs.translation_laws.tree_names_answer.Goals as goal

pub returns : goal.returns
returns c = tree_names-answer
