use Rattle.kernel_check.proofs.Scoped.{infer_sort-scoped}
use Rattle.kernel_check.proofs.laws.infer_sort_scoped.Goals as goal

pub returns : goal.returns
returns c = infer_sort-scoped
