use Rattle.kernel_reduce.proofs.ScopedReduction.{step-scoped}
use Rattle.kernel_reduce.proofs.laws.step_scoped.Goals as goal

pub returns : goal.returns
returns c = step-scoped
