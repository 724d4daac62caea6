use Rattle.kernel_check.proofs.Scoped.{check-scoped}
use Rattle.kernel_check.proofs.laws.check_scoped.Goals as goal

pub returns : goal.returns
returns c = check-scoped
