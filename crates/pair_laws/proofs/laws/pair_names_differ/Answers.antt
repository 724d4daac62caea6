use Rattle.pair_laws.proofs.PairNames.{names-differ}
use Rattle.pair_laws.proofs.laws.pair_names_differ.Goals as goal

pub returns : goal.returns
returns c = names-differ
