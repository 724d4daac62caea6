use Rattle.elim.proofs.refusal_laws.Declarations.{rejected-is_denied}
use Rattle.elim.proofs.refusal_laws.rejected_is_denied.Goals as goal

pub returns : goal.returns
returns c = rejected-is_denied
