use Rattle.kernel_reduce.proofs.ScopedReduction.{head_step-scoped}
use Rattle.kernel_reduce.proofs.laws.head_step_scoped.Goals as goal

pub returns : goal.returns
returns c = head_step-scoped
