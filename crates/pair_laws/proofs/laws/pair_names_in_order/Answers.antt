use Rattle.pair_laws.proofs.PairDrafts.{names-in-order}
use Rattle.pair_laws.proofs.laws.pair_names_in_order.Goals as goal

pub returns : goal.returns
returns c = names-in-order
