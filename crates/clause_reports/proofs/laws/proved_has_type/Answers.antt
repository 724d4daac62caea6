use Rattle.clause_reports.proofs.LineLaws.{proved-has_type}
use Rattle.clause_reports.proofs.laws.proved_has_type.Goals as goal

pub returns : goal.returns
returns c = proved-has_type
