use Rattle.kernel_reduce.proofs.ScopedSignatures.{pushed-scoped}
use Rattle.kernel_reduce.proofs.laws.pushed_scoped.Goals as goal

pub returns : goal.returns
returns c = pushed-scoped
