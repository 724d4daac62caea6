use Rattle.clause_reports.proofs.LineLaws.{shadowed-matches}
use Rattle.clause_reports.proofs.laws.shadowed_matches.Goals as goal

pub returns : goal.returns
returns c = shadowed-matches
