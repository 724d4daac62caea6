use Rattle.elim.proofs.refusal_laws.accepted_laws.Drafts.{entering-is-checked}
use Rattle.elim.proofs.refusal_laws.accepted_laws.entering_is_checked.Goals as goal

pub returns : goal.returns
returns c = entering-is-checked
