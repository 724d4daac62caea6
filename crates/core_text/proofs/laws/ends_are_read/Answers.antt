use Rattle.core_text.proofs.NotesBack.{ends-are-read}
use Rattle.core_text.proofs.laws.ends_are_read.Goals as goal

pub returns : goal.returns
returns c = ends-are-read
