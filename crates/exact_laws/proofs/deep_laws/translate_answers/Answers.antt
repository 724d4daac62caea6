use Rattle.exact_laws.proofs.deep_laws.ExactEntries.{translate-answers}
use Rattle.exact_laws.proofs.deep_laws.translate_answers.Goals as goal

pub returns : goal.returns
returns c = translate-answers c.part_is_exact.ensures
