use Rattle.elim.proofs.headline.verified_laws.Texts.{text-checked}
use Rattle.elim.proofs.headline.verified_laws.text_is_checked.Goals as goal

pub returns : goal.returns
returns c = text-checked
