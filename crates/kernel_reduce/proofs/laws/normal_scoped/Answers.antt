use Rattle.kernel_reduce.proofs.ScopedReduction.{normal-scoped}
use Rattle.kernel_reduce.proofs.laws.normal_scoped.Goals as goal

pub returns : goal.returns
returns c = normal-scoped
