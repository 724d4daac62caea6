use Rattle.clause_reports.proofs.Keeping.{entering-adds}
use Rattle.clause_reports.proofs.laws.entering_adds.Goals as goal

pub returns : goal.returns
returns c = entering-adds
