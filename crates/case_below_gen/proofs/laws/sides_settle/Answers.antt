use Rattle.case_below_gen.proofs.SettledDrafts.{sides-settle}
use Rattle.case_below_gen.proofs.laws.sides_settle.Goals as goal

pub returns : goal.returns
returns c = sides-settle
