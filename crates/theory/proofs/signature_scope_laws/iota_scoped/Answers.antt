use Rattle.theory.proofs.ScopedEntries.{iota-scoped}
use Rattle.theory.proofs.signature_scope_laws.iota_scoped.Goals as goal

pub returns : goal.returns
returns c = iota-scoped
