use Rattle.entry_laws.proofs.name_laws.SplitOrders.{split_names_in_order}
use Rattle.entry_laws.proofs.name_laws.split_names_in_order.Goals as goal

pub returns : goal.returns
returns c = split_names_in_order
