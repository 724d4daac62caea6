use Rattle.kernel_reduce.proofs.WellFormedScopes.{well_formed-scoped}
use Rattle.kernel_reduce.proofs.laws.well_formed_scoped.Goals as goal

pub returns : goal.returns
returns c = well_formed-scoped
