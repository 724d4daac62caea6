use Rattle.case_below_gen.proofs.SettledDrafts.{aux-settles}
use Rattle.case_below_gen.proofs.laws.aux_settles.Goals as goal

pub returns : goal.returns
returns c = aux-settles
