use Rattle.exact_laws.proofs.run_laws.AnsweredTerms.{run-answers}
use Rattle.exact_laws.proofs.run_laws.run_answers.Goals as goal

pub returns : goal.returns
returns c = run-answers
