use Rattle.exact_laws.proofs.part_laws.AnsweredParts.{part_names-answer}
use Rattle.exact_laws.proofs.part_laws.part_names_answer.Goals as goal

pub returns : goal.returns
returns c = part_names-answer
