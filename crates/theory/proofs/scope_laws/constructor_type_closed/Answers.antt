use Rattle.theory.proofs.ScopedTypes.{constructor_type_closed}
use Rattle.theory.proofs.scope_laws.constructor_type_closed.Goals as goal

pub returns : goal.returns
returns c = constructor_type_closed
