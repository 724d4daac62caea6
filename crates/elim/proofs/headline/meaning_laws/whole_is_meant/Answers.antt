use Rattle.elim.proofs.headline.meaning_laws.Completions.{whole-meant}
use Rattle.elim.proofs.headline.meaning_laws.whole_is_meant.Goals as goal

pub returns : goal.returns
returns c = whole-meant c.compiled_is_meant.ensures c.work_is_meant.ensures
