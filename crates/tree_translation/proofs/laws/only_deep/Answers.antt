use Rattle.tree_translation.proofs.EntryNames.{only_deep}
use Rattle.tree_translation.proofs.laws.only_deep.Goals as goal

pub returns : goal.returns
returns c = only_deep
