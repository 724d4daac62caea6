use Rattle.elim.proofs.refusal_laws.Declarations.{mismatch-is_denied}
use Rattle.elim.proofs.refusal_laws.mismatch_is_denied.Goals as goal

pub returns : goal.returns
returns c = mismatch-is_denied
