use Rattle.tree_translation.proofs.structural_rec.RecursionOrders.{order-is-telescope}
use Rattle.tree_translation.proofs.structural_rec.laws.order_is_telescope.Goals as goal

pub returns : goal.returns
returns c = order-is-telescope
