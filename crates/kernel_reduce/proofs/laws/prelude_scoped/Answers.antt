use Rattle.kernel_reduce.proofs.ScopedSignatures.{prelude-scoped}
use Rattle.kernel_reduce.proofs.laws.prelude_scoped.Goals as goal

pub returns : goal.returns
returns c = prelude-scoped
