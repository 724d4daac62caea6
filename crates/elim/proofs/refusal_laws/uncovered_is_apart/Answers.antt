use Rattle.elim.proofs.refusal_laws.Declarations.{uncovered-is_apart}
use Rattle.elim.proofs.refusal_laws.uncovered_is_apart.Goals as goal

pub returns : goal.returns
returns c = uncovered-is_apart
