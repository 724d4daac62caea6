use Rattle.pair_entries.proofs.PairsMade.{pair-entries-are}
use Rattle.pair_entries.proofs.laws.pair_entries_are_these.Goals as goal

pub returns : goal.returns
returns c = pair-entries-are
