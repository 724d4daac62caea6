use Rattle.kernel_reduce.proofs.ScopedReduction.{whnf-scoped}
use Rattle.kernel_reduce.proofs.laws.whnf_scoped.Goals as goal

pub returns : goal.returns
returns c = whnf-scoped
