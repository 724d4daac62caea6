use Rattle.tree_translation.proofs.EntryNames.{entries_are_these}
use Rattle.tree_translation.proofs.laws.entries_are_these.Goals as goal

pub returns : goal.returns
returns c = entries_are_these
