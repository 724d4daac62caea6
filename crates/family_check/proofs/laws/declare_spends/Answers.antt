use Rattle.family_check.proofs.Spending.{declare-spends}
use Rattle.family_check.proofs.laws.declare_spends.Goals as goal

pub returns : goal.returns
returns c = declare-spends
