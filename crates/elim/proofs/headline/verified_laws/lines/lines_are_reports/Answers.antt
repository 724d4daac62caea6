use Rattle.elim.proofs.headline.verified_laws.Reported.{lines_are_reports}
use Rattle.elim.proofs.headline.verified_laws.lines.lines_are_reports.Goals as goal

pub returns : goal.returns
returns c = lines_are_reports
