use Rattle.family_check.proofs.Spending.{define-spends}
use Rattle.family_check.proofs.laws.define_spends.Goals as goal

pub returns : goal.returns
returns c = define-spends
