use Rattle.surface_syntax.proofs.word_laws.Spelled.{words-spelled}
use Rattle.surface_syntax.proofs.word_laws.words_are_spelled.Goals as goal

pub returns : goal.returns
returns c = words-spelled
