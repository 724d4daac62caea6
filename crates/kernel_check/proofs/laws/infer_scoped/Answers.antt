use Rattle.kernel_check.proofs.Scoped.{infer-scoped}
use Rattle.kernel_check.proofs.laws.infer_scoped.Goals as goal

pub returns : goal.returns
returns c = infer-scoped
