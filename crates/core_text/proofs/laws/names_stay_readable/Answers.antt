use Rattle.core_text.proofs.NamesSpelled.{names-stay-readable}
use Rattle.core_text.proofs.laws.names_stay_readable.Goals as goal

pub returns : goal.returns
returns c = names-stay-readable
