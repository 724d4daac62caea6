use Rattle.clause_reports.proofs.LineLaws.{absurd-is_absurd}
use Rattle.clause_reports.proofs.laws.absurd_is_absurd.Goals as goal

pub returns : goal.returns
returns c = absurd-is_absurd
