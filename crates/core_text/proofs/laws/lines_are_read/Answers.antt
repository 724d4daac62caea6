use Rattle.core_text.proofs.LinesRead.{lines-are-read}
use Rattle.core_text.proofs.laws.lines_are_read.Goals as goal

pub returns : goal.returns
returns c = lines-are-read
