use Rattle.tree_translation.proofs.EntryNames.{names_in_order-are}
use Rattle.tree_translation.proofs.laws.names_in_order.Goals as goal

pub returns : goal.returns
returns c = names_in_order-are
