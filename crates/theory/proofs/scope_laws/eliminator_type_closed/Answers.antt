use Rattle.theory.proofs.ScopedTypes.{eliminator_type_closed}
use Rattle.theory.proofs.scope_laws.eliminator_type_closed.Goals as goal

pub returns : goal.returns
returns c = eliminator_type_closed
