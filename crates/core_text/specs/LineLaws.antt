-- The bytes that are read are the line of the entry, after lines that begin with `#`.
use Rattle.std.specs.Prelude.{◌≡◌, ◌↔◌, ℕ, ◌≤◌, ◌<◌, ◌^◌, true, List, [], ◌++◌, length, drop, codes, Some, None, Ok}
use Rattle.theory.specs.Signatures.{Entry, Signature}
use Rattle.theory.specs.WellFormed.{pushed}
use Rattle.core_text.specs.EntryReading.{entry_from}
use Rattle.core_text.specs.EntryText.{entry_line}
use Rattle.core_text.specs.Lines.{is_in_line}
use Rattle.core_text.specs.RawEntries.{entry_shown}

-- lines that begin with `#`
pub data AreNotes : List ℕ → Type 0 where
  no_note : AreNotes []
  note : (text others : List ℕ) → is_in_line text ≡ true → AreNotes others → AreNotes (codes "#" ++ (text ++ (codes "\n" ++ others)))

-- After its first bytes the text has lines that begin with `#` and then the line of the entry, written over the entries S
-- and itself, which ends where `to` says.
pub record HasLine (S : Signature) (text : List ℕ) (from : ℕ) (e : Entry) (to : ℕ) : Type 0 where
  pub notes : List ℕ
  pub others : List ℕ
  pub are_notes : AreNotes notes
  pub line : drop from text ≡ notes ++ (entry_line (pushed S e) (length S.entries) e ++ others)
  pub past : drop to text ≡ others

-- The bytes that are read as an entry are the line of the entry.
abbrev pub LinesAreRead : Type 0
LinesAreRead =
    (S : Signature) (text : List ℕ) (from : ℕ) (e : Entry) (to : ℕ) → length text < 2 ^ 32 → from ≤ length text →
    entry_from S text from ≡ Ok (Some (entry_shown (length S.entries) e, to)) → HasLine S text from e to

-- Lines that begin with `#` are passed over.
abbrev pub NotesArePassedOver : Type 0
NotesArePassedOver =
    (S : Signature) (before notes rest : List ℕ) → AreNotes notes →
    entry_from S (before ++ (notes ++ rest)) (length before) ≡ entry_from S ((before ++ notes) ++ rest) (length (before ++ notes))

-- No entry is left exactly where nothing but lines that begin with `#` follows.
abbrev pub EndsAreRead : Type 0
EndsAreRead = (S : Signature) (text : List ℕ) (from : ℕ) → (entry_from S text from ≡ Ok None) ↔ AreNotes (drop from text)
