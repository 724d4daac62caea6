use Rattle.pair_laws.proofs.PairDrafts.{only-deep}
use Rattle.pair_laws.proofs.laws.pair_only_deep.Goals as goal

pub returns : goal.returns
returns c = only-deep
