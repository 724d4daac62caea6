use Rattle.kernel_reduce.proofs.WellFormedScopes.{so_far-scoped}
use Rattle.kernel_reduce.proofs.laws.so_far_scoped.Goals as goal

pub returns : goal.returns
returns c = so_far-scoped
