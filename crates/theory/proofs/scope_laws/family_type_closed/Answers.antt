use Rattle.theory.proofs.ScopedTypes.{family_type_closed}
use Rattle.theory.proofs.scope_laws.family_type_closed.Goals as goal

pub returns : goal.returns
returns c = family_type_closed
