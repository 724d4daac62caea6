use Rattle.entry_laws.proofs.order_scopes.RecursionOrders.{recursion-ordered}
use Rattle.entry_laws.proofs.order_scopes.recursion_ordered.Goals as goal

pub returns : goal.returns
returns c = recursion-ordered
