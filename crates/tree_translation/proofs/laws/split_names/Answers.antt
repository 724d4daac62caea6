use Rattle.tree_translation.proofs.GeneratedNames.{split_names-are}
use Rattle.tree_translation.proofs.laws.split_names.Goals as goal

pub returns : goal.returns
returns c = split_names-are
