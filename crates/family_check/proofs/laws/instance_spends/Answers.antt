use Rattle.family_check.proofs.Spending.{instance-spends}
use Rattle.family_check.proofs.laws.instance_spends.Goals as goal

pub returns : goal.returns
returns c = instance-spends
