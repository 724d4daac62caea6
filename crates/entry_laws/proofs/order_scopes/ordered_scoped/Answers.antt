use Rattle.entry_laws.proofs.order_scopes.OrderedScopes.{ordered-scoped}
use Rattle.entry_laws.proofs.order_scopes.ordered_scoped.Goals as goal

pub returns : goal.returns
returns c = ordered-scoped
