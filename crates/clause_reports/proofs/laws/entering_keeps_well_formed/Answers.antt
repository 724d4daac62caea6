use Rattle.clause_reports.proofs.Keeping.{entering-keeps}
use Rattle.clause_reports.proofs.laws.entering_keeps_well_formed.Goals as goal

pub returns : goal.returns
returns c = entering-keeps
