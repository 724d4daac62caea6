use Rattle.elim.proofs.headline.writing_laws.StaysLow.{entries-stay-low}
use Rattle.elim.proofs.headline.writing_laws.entries_stay_low.Goals as goal

pub returns : goal.returns
returns c = entries-stay-low
