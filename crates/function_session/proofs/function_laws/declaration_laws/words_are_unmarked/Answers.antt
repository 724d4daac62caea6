use Rattle.function_session.proofs.function_laws.declaration_laws.Texts.{words-unmarked}
use Rattle.function_session.proofs.function_laws.declaration_laws.words_are_unmarked.Goals as goal

pub returns : goal.returns
returns c = words-unmarked
