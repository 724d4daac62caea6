use Rattle.clause_reports.proofs.ReportSpending.{report-spends}
use Rattle.clause_reports.proofs.laws.report_spends.Goals as goal

pub returns : goal.returns
returns c = report-spends
