use Rattle.elim.proofs.headline.writing_laws.Ordinary.{text-ordinary}
use Rattle.elim.proofs.headline.writing_laws.text_is_ordinary.Goals as goal

pub returns : goal.returns
returns c = text-ordinary
