use Rattle.elim.proofs.headline.line_laws.Functions.{declaration-reports}
use Rattle.elim.proofs.headline.line_laws.declaration_reports.Goals as goal

pub returns : goal.returns
returns c = declaration-reports
