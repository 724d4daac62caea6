use Rattle.case_below_gen.proofs.Computing.{rec-computes}
use Rattle.case_below_gen.proofs.laws.rec_computes.Goals as goal

pub returns : goal.returns
returns c = rec-computes
