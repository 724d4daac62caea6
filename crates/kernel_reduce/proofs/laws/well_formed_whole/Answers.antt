use Rattle.kernel_reduce.proofs.WellFormedScopes.{well_formed-whole}
use Rattle.kernel_reduce.proofs.laws.well_formed_whole.Goals as goal

pub returns : goal.returns
returns c = well_formed-whole
