use Rattle.std.proofs.Common.{◌≡◌, false, length}
use Rattle.core_text.specs.EntryReading.{after_notes}
use Rattle.core_text.proofs.entry_reader.after_notes.Given as goal

abbrev pub invariant-bytes : goal.invariant-bytes
invariant-bytes l = after_notes l.inside l.rest ≡ after_notes false l.fn.from

abbrev pub decreases-bytes : goal.decreases-bytes
decreases-bytes l = length l.rest
