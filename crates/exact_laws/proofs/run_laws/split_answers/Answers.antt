use Rattle.exact_laws.proofs.run_laws.AnsweredSplits.{split-answers}
use Rattle.exact_laws.proofs.run_laws.split_answers.Goals as goal

pub returns : goal.returns
returns c = split-answers
