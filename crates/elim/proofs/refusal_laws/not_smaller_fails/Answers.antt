use Rattle.elim.proofs.refusal_laws.Declarations.{not_smaller-fails}
use Rattle.elim.proofs.refusal_laws.not_smaller_fails.Goals as goal

pub returns : goal.returns
returns c = not_smaller-fails
