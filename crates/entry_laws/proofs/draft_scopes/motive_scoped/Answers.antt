use Rattle.entry_laws.proofs.draft_scopes.RenumberedDrafts.{motive_scoped}
use Rattle.entry_laws.proofs.draft_scopes.motive_scoped.Goals as goal

pub returns : goal.returns
returns c = motive_scoped
