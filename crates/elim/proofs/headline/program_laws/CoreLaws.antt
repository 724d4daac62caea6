-- The laws of core text that the reading of an output rests on.
use Rattle.core_text.proofs.EntriesFollow.{entries-that-follow}
use Rattle.core_text.proofs.LinesSpelled.{entries-are-read-back}
use Rattle.core_text.proofs.NotesBack.{notes-are-passed-over, ends-are-read}
use Rattle.elim.specs.headline.program_laws.Laws.{OneSignature}
use Rattle.elim.proofs.headline.program_laws.OneSignature.{from_laws}

pub one_signature : OneSignature
one_signature = from_laws entries-are-read-back entries-that-follow notes-are-passed-over ends-are-read
