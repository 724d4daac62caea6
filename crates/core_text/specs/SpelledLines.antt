-- A line that is spelled right is refused at no byte of it: it is read, unless a term in it is too deep or too high, or the
-- line shows no record.
use Rattle.std.specs.Prelude.{◌≡◌, ◌≢◌, ◌⊎◌, ℕ, ◌+◌, ◌<◌, ◌^◌, false, List, ◌++◌, length, Option, Some, Result, Ok, Err, AllPairs}
use Rattle.theory.specs.Signatures.{Signature, names}
use Rattle.core_text.specs.EntryParts.{HasLowTerms}
use Rattle.core_text.specs.EntryReading.{shows_entry, entry_from}
use Rattle.core_text.specs.ReadableNames.{HasReadableNames}
use Rattle.core_text.specs.RawEntries.{RawEntry}
use Rattle.core_text.specs.Spellings.{raw_line, IsEntryOver}
use Rattle.core_text.specs.declared.stop.CoreTextStop.{CoreTextStop}
use Rattle.core_text.specs.declared.stop.CoreTextStop.TheVariants.{Nested, NotCoreText}

-- A term is too high, or one inside it is too deep; the second comes only where the whole term is higher than 2,000.
abbrev pub IsTooDeepOrHigh : RawEntry → Result (Option (RawEntry × ℕ)) CoreTextStop → Type 0
IsTooDeepOrHigh raw r = (HasLowTerms raw → ⊥) × (at : ℕ) × (r ≡ Err (Nested at))

-- the outcome of reading the line of `raw`, between the two offsets, after the entries S
abbrev pub IsSpelledOutcome : Signature → RawEntry → ℕ → ℕ → Result (Option (RawEntry × ℕ)) CoreTextStop → Type 0
IsSpelledOutcome S raw from to r =
    (r ≡ Ok (Some (raw, to))) ⊎ IsTooDeepOrHigh raw r
    ⊎ ((shows_entry (length S.entries) raw ≡ false) × (r ≡ Err (NotCoreText from)))

abbrev pub SpelledLinesAreRead : Type 0
SpelledLinesAreRead =
    (S : Signature) (raw : RawEntry) (before others : List ℕ) → AllPairs (λ x y. x ≢ y) (names S) → HasReadableNames S → IsEntryOver S raw
    → length (raw_line S raw) < 2 ^ 32
    → IsSpelledOutcome S raw (length before) (length before + length (raw_line S raw)) (entry_from S (before ++ (raw_line S raw ++ others)) (length before))
