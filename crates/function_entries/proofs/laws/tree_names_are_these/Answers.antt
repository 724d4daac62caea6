use Rattle.function_entries.proofs.TreesMade.{tree-names-are}
use Rattle.function_entries.proofs.laws.tree_names_are_these.Goals as goal

pub returns : goal.returns
returns c = tree-names-are
