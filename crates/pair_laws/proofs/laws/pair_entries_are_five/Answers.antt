use Rattle.pair_laws.proofs.PairDrafts.{five-names}
use Rattle.pair_laws.proofs.laws.pair_entries_are_five.Goals as goal

pub returns : goal.returns
returns c = five-names
