use Rattle.elim.proofs.refusal_laws.accepted_laws.Declarations.{elaborate-checked}
use Rattle.elim.proofs.refusal_laws.accepted_laws.elaborate_is_checked.Goals as goal

pub returns : goal.returns
returns c = elaborate-checked
