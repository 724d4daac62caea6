use Rattle.lex_recursion.proofs.PairOrders.{pair-order-is-telescope}
use Rattle.lex_recursion.proofs.laws.pair_order_is_telescope.Goals as goal

pub returns : goal.returns
returns c = pair-order-is-telescope
