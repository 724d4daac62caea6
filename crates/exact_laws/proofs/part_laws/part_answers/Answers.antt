use Rattle.exact_laws.proofs.part_laws.AnsweredParts.{part-answers}
use Rattle.exact_laws.proofs.part_laws.part_answers.Goals as goal

pub returns : goal.returns
returns c = part-answers
