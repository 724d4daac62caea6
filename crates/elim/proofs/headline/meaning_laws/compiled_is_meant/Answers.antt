use Rattle.elim.proofs.headline.meaning_laws.Meanings.{compiled-meant}
use Rattle.elim.proofs.headline.meaning_laws.compiled_is_meant.Goals as goal

pub returns : goal.returns
returns c = compiled-meant c.lines_are_meant.ensures
