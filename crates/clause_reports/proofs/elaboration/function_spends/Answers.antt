use Rattle.clause_reports.proofs.elaboration.Spending.{function-spends}
use Rattle.clause_reports.proofs.elaboration.function_spends.Goals as goal

pub returns : goal.returns
returns c = function-spends
