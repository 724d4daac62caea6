use Rattle.entry_laws.proofs.draft_scopes.RenumberedDrafts.{in_order-scoped}
use Rattle.entry_laws.proofs.draft_scopes.in_order_scoped.Goals as goal

pub returns : goal.returns
returns c = in_order-scoped
