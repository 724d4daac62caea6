use Rattle.elim.proofs.refusal_laws.accepted_laws.Reports.{report-is-checked}
use Rattle.elim.proofs.refusal_laws.accepted_laws.report_is_checked.Goals as goal

pub returns : goal.returns
returns c = report-is-checked
