use Rattle.elim.proofs.headline.meaning_laws.Meanings.{work-meant}
use Rattle.elim.proofs.headline.meaning_laws.work_is_meant.Goals as goal

pub returns : goal.returns
returns c = work-meant c.text_is_meant.ensures
