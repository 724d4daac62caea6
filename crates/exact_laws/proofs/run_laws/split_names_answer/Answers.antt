use Rattle.exact_laws.proofs.run_laws.AnsweredSplits.{split_names-answer}
use Rattle.exact_laws.proofs.run_laws.split_names_answer.Goals as goal

pub returns : goal.returns
returns c = split_names-answer
