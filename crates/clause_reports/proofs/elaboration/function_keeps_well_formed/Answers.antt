use Rattle.clause_reports.proofs.elaboration.Keeping.{function-keeps}
use Rattle.clause_reports.proofs.elaboration.function_keeps_well_formed.Goals as goal

pub returns : goal.returns
returns c = function-keeps
