use Rattle.elim.proofs.refusal_laws.accepted_laws.Declarations.{declare-checked}
use Rattle.elim.proofs.refusal_laws.accepted_laws.declare_is_checked.Goals as goal

pub returns : goal.returns
returns c = declare-checked
