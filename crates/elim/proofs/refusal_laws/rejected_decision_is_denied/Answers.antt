use Rattle.elim.proofs.refusal_laws.Decisions.{rejected-decision-is_denied}
use Rattle.elim.proofs.refusal_laws.rejected_decision_is_denied.Goals as goal

pub returns : goal.returns
returns c = rejected-decision-is_denied
