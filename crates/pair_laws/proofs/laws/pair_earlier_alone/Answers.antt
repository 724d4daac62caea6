use Rattle.pair_laws.proofs.PairNames.{earlier-alone}
use Rattle.pair_laws.proofs.laws.pair_earlier_alone.Goals as goal

pub returns : goal.returns
returns c = earlier-alone
