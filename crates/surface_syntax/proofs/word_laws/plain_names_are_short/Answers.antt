use Rattle.surface_syntax.proofs.word_laws.Spelled.{plain-short}
use Rattle.surface_syntax.proofs.word_laws.plain_names_are_short.Goals as goal

pub returns : goal.returns
returns c = plain-short
