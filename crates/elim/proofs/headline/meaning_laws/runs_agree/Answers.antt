use Rattle.elim.proofs.headline.meaning_laws.Completions.{runs-agree}
use Rattle.elim.proofs.headline.meaning_laws.runs_agree.Goals as goal

pub returns : goal.returns
returns c = runs-agree
