use Rattle.core_text.proofs.EntriesSpelled.{spelled-lines-are-read}
use Rattle.core_text.proofs.laws.spelled_lines_are_read.Goals as goal

pub returns : goal.returns
returns c = spelled-lines-are-read
