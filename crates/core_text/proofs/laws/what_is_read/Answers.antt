use Rattle.core_text.proofs.EntryOutcomes.{what-is-read}
use Rattle.core_text.proofs.laws.what_is_read.Goals as goal

pub returns : goal.returns
returns c = what-is-read
