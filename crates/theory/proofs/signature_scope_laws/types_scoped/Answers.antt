use Rattle.theory.proofs.ScopedEntries.{types-scoped}
use Rattle.theory.proofs.signature_scope_laws.types_scoped.Goals as goal

pub returns : goal.returns
returns c = types-scoped
