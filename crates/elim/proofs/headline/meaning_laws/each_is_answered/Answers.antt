use Rattle.elim.proofs.headline.meaning_laws.Completions.{each-answered}
use Rattle.elim.proofs.headline.meaning_laws.each_is_answered.Goals as goal

pub returns : goal.returns
returns c = each-answered
