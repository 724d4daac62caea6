use Rattle.elim.proofs.headline.line_laws.Functions.{function-reports}
use Rattle.elim.proofs.headline.line_laws.function_reports.Goals as goal

pub returns : goal.returns
returns c = function-reports
