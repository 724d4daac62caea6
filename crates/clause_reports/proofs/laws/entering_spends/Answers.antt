use Rattle.clause_reports.proofs.Spending.{entering-spends}
use Rattle.clause_reports.proofs.laws.entering_spends.Goals as goal

pub returns : goal.returns
returns c = entering-spends
