use Rattle.function_entries.proofs.TreesMade.{tree-is}
use Rattle.function_entries.proofs.laws.tree_is_term.Goals as goal

pub returns : goal.returns
returns c = tree-is
