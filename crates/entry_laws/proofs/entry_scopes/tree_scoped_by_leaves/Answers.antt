use Rattle.entry_laws.proofs.entry_scopes.TreeLaws.{tree_scoped_by_leaves}
use Rattle.entry_laws.proofs.entry_scopes.tree_scoped_by_leaves.Goals as goal

pub returns : goal.returns
returns c = tree_scoped_by_leaves
