use Rattle.elim.proofs.headline.meaning_laws.Meanings.{run-meant}
use Rattle.elim.proofs.headline.meaning_laws.run_is_meant.Goals as goal

pub returns : goal.returns
returns c = run-meant c.compiled_is_meant.ensures
