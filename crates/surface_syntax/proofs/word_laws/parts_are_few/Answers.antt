use Rattle.surface_syntax.proofs.word_laws.Spelled.{parts-few}
use Rattle.surface_syntax.proofs.word_laws.parts_are_few.Goals as goal

pub returns : goal.returns
returns c = parts-few
