use Rattle.elim.proofs.headline.meaning_laws.Meanings.{lines-meant}
use Rattle.elim.proofs.headline.meaning_laws.lines_are_meant.Goals as goal

pub returns : goal.returns
returns c = lines-meant c.text_is_meant.ensures
