use Rattle.kernel_check.proofs.Spending.{infer_sort-spends}
use Rattle.kernel_check.proofs.laws.infer_sort_spends.Goals as goal

pub returns : goal.returns
returns c = infer_sort-spends
