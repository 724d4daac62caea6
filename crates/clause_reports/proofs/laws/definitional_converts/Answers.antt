use Rattle.clause_reports.proofs.LineLaws.{definitional-converts}
use Rattle.clause_reports.proofs.laws.definitional_converts.Goals as goal

pub returns : goal.returns
returns c = definitional-converts
