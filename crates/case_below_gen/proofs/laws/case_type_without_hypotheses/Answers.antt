use Rattle.case_below_gen.proofs.CaseTypes.{case-type}
use Rattle.case_below_gen.proofs.laws.case_type_without_hypotheses.Goals as goal

pub returns : goal.returns
returns c = case-type
