-- Reading the next entry of a core file, with offsets.
use Rattle.std.specs.Prelude.{◌≡◌, ℕ, ◌-◌, ◌==◌, Bool, true, false, not, if◌then◌else◌, List, [], ◌∷◌, length, drop, Option, Some, None, option_map, Result, Ok, Err}
use Rattle.theory.specs.Signatures.{Signature}
use Rattle.core_terms.specs.Answers.{GivesUnless}
use Rattle.core_sig.specs.Meanings.{entry_of}
use Rattle.core_sig.specs.declared.entry.Entry.{Entry}
use Rattle.core_text.specs.LineReading.{line_at}
use Rattle.core_text.specs.RawEntries.{RawEntry, RawFamilyOf, entry_shown, shows_record}
use Rattle.core_text.specs.Reading.{Reading, wrong, after}
use Rattle.core_text.specs.declared.halt.Halt.{Halt}
use Rattle.core_text.specs.declared.halt.Halt.TheVariants.{Memory as Exhausted, Nested as TooDeep, Wrong}
use Rattle.core_text.specs.declared.stop.CoreTextStop.{CoreTextStop}
use Rattle.core_text.specs.declared.stop.CoreTextStop.TheVariants.{Memory, Nested, NotCoreText}

-- The bytes after the lines that begin with `#`; `inside` where such a line has begun. The last one has a line feed too.
abbrev pub after_notes : Bool → List ℕ → Result (List ℕ) Halt
after_notes false [] = Ok []
after_notes true [] = Err (Wrong 0)
after_notes false (b ∷ rest) = if b == 35 then after_notes true rest else Ok (b ∷ rest)
after_notes true (b ∷ rest) = after_notes (not (b == 10)) rest

-- whether a line of entry number n shows an entry
abbrev pub shows_entry : ℕ → RawEntry → Bool
shows_entry n (RawFamilyOf raw) = shows_record n raw
shows_entry n _ = true

-- a line that shows no entry is wrong at its first byte
abbrev pub shown_by : ℕ → List ℕ → Reading RawEntry → Reading (Option RawEntry)
shown_by n line (Ok p) = if shows_entry n p.0 then Ok (Some p.0, p.1) else wrong line
shown_by n line (Err e) = Err e

-- the next entry, or nothing at the end of the text
abbrev pub entry_at : Signature → List ℕ → Reading (Option RawEntry)
entry_at S [] = Ok (None, [])
entry_at S (b ∷ rest) = shown_by (length S.entries) (b ∷ rest) (line_at S [] (b ∷ rest))

abbrev pub next_entry : Signature → List ℕ → Reading (Option RawEntry)
next_entry S rest = after (after_notes false rest) (entry_at S)

-- the place where reading stops by its offset in a text with `size` bytes
abbrev pub stop_of : ℕ → Halt → CoreTextStop
stop_of size Exhausted = Memory
stop_of size (TooDeep left) = Nested (size - left)
stop_of size (Wrong left) = NotCoreText (size - left)

-- an entry with the offset after it, in a text with `size` bytes
abbrev pub with_offset : ℕ → Reading (Option RawEntry) → Result (Option (RawEntry × ℕ)) CoreTextStop
with_offset size (Ok p) = Ok (option_map (λ e. (e, size - length p.1)) p.0)
with_offset size (Err halt) = Err (stop_of size halt)

-- The next entry of the text after its first bytes, as its line shows it, with the offset after the line; or nothing,
-- exactly at the end of the text; else the place where no core file over the entries goes on.
abbrev pub entry_from : Signature → List ℕ → ℕ → Result (Option (RawEntry × ℕ)) CoreTextStop
entry_from S text from = with_offset (length text) (next_entry S (drop from text))

-- an entry of the code as the line of entry number n shows it
abbrev pub shown_with : ℕ → Entry × ℕ → RawEntry × ℕ
shown_with n p = (entry_shown n (entry_of p.0), p.1)

-- the refusals that nothing rules out: only out of memory
abbrev pub IsUnforeseen : CoreTextStop → Type 0
IsUnforeseen e = e ≡ Memory

-- the answer of the code shows what is read, unless memory ran out
abbrev pub ReadsEntry : ℕ → Result (Option (Entry × ℕ)) CoreTextStop → Result (Option (RawEntry × ℕ)) CoreTextStop → Type 0
ReadsEntry n result meant = GivesUnless IsUnforeseen (option_map (shown_with n)) result meant
