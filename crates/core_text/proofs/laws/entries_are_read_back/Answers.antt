use Rattle.core_text.proofs.LinesSpelled.{entries-are-read-back}
use Rattle.core_text.proofs.laws.entries_are_read_back.Goals as goal

pub returns : goal.returns
returns c = entries-are-read-back
