use Rattle.core_text.proofs.NotesBack.{notes-are-passed-over}
use Rattle.core_text.proofs.laws.notes_are_passed_over.Goals as goal

pub returns : goal.returns
returns c = notes-are-passed-over
