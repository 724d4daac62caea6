use Rattle.tree_translation.proofs.WrittenType.{type_is_written}
use Rattle.tree_translation.proofs.laws.type_is_written.Goals as goal

pub returns : goal.returns
returns c = type_is_written
