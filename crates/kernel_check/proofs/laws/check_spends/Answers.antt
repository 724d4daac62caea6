use Rattle.kernel_check.proofs.Spending.{check-spends}
use Rattle.kernel_check.proofs.laws.check_spends.Goals as goal

pub returns : goal.returns
returns c = check-spends
