use Rattle.clause_reports.proofs.ReportKeeping.{report-keeps}
use Rattle.clause_reports.proofs.laws.report_keeps_well_formed.Goals as goal

pub returns : goal.returns
returns c = report-keeps
