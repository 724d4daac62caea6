use Rattle.clause_lines.proofs.PartsAnswered.{report-keeps-well-formed}
use Rattle.clause_lines.proofs.laws.report_made_keeps_well_formed.Goals as goal

pub returns : goal.returns
returns c = report-keeps-well-formed
