use Rattle.exact_laws.proofs.run_laws.AnsweredNames.{run_names-answer}
use Rattle.exact_laws.proofs.run_laws.run_names_answer.Goals as goal

pub returns : goal.returns
returns c = run_names-answer
