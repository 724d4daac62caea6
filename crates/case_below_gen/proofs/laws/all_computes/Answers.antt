use Rattle.case_below_gen.proofs.Computing.{all-computes}
use Rattle.case_below_gen.proofs.laws.all_computes.Goals as goal

pub returns : goal.returns
returns c = all-computes
