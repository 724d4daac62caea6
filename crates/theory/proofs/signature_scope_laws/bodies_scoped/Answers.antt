use Rattle.theory.proofs.ScopedEntries.{bodies-scoped}
use Rattle.theory.proofs.signature_scope_laws.bodies_scoped.Goals as goal

pub returns : goal.returns
returns c = bodies-scoped
