use Rattle.entry_laws.proofs.order_scopes.OrderedScopes.{ordered-places}
use Rattle.entry_laws.proofs.order_scopes.ordered_places.Goals as goal

pub returns : goal.returns
returns c = ordered-places
