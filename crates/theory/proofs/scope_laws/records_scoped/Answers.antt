use Rattle.theory.proofs.RecordScopes.{records_scoped}
use Rattle.theory.proofs.scope_laws.records_scoped.Goals as goal

pub returns : goal.returns
returns c = records_scoped
