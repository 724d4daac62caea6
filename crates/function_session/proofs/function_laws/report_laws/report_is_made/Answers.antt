use Rattle.function_session.proofs.function_laws.report_laws.MadeReports.{report-is_made}
use Rattle.function_session.proofs.function_laws.report_laws.report_is_made.Goals as goal

pub returns : goal.returns
returns c = report-is_made
