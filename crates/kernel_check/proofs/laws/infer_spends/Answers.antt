use Rattle.kernel_check.proofs.Spending.{infer-spends}
use Rattle.kernel_check.proofs.laws.infer_spends.Goals as goal

pub returns : goal.returns
returns c = infer-spends
