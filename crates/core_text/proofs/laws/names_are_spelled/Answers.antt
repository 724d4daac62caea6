use Rattle.core_text.proofs.NamesSpelled.{names-are-spelled}
use Rattle.core_text.proofs.laws.names_are_spelled.Goals as goal

pub returns : goal.returns
returns c = names-are-spelled
