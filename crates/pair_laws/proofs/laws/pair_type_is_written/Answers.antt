use Rattle.pair_laws.proofs.PairDrafts.{written-type}
use Rattle.pair_laws.proofs.laws.pair_type_is_written.Goals as goal

pub returns : goal.returns
returns c = written-type
