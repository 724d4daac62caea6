-- The place of a refusal: the first one from which no core file over the entries so far goes on.
use Rattle.std.specs.Prelude.{◌≡◌, ◌⊎◌, ℕ, ◌<◌, ◌≤◌, ◌^◌, true, false, List, ◌++◌, length, take, drop, codes, Err}
use Rattle.theory.specs.Signatures.{Signature}
use Rattle.theory.specs.SignatureScopes.{IsFamilyNumber}
use Rattle.core_sig.specs.Raw.{RawFamily}
use Rattle.core_text.specs.EntryReading.{entry_from}
use Rattle.core_text.specs.LineLaws.{AreNotes}
use Rattle.core_text.specs.LineReading.{levels_left, identities_left}
use Rattle.core_text.specs.NameRuns.{width, run_len}
use Rattle.core_text.specs.RawEntries.{RawEntry, RawFamilyOf, shows_record}
use Rattle.core_text.specs.Reading.{first, is_left}
use Rattle.core_text.specs.Spellings.{raw_line, IsEntryOver}
use Rattle.core_text.specs.SymbolNames.{name_at}
use Rattle.core_text.specs.declared.instances.Series.TheVariants.{Elim}
use Rattle.core_text.specs.declared.stop.CoreTextStop.TheVariants.{Nested, NotCoreText}

-- ---- before the place

-- A core file goes on with the bytes: with more bytes they are lines that begin with `#` and then a line over the entries.
pub record GoesOn (S : Signature) (bytes : List ℕ) : Type 0 where
  pub more : List ℕ
  pub notes : List ℕ
  pub entry : RawEntry
  pub are_notes : AreNotes notes
  pub over : IsEntryOver S entry
  pub line : bytes ++ more ≡ notes ++ raw_line S entry

-- After lines that begin with `#`, the bytes begin the word, or are the whole of it.
pub record BeginsWord (bytes word : List ℕ) : Type 0 where
  pub more : List ℕ
  pub notes : List ℕ
  pub are_notes : AreNotes notes
  pub line : bytes ++ more ≡ notes ++ word

-- Where an instance would be named but none is left, the words and the name of the family may still be there.
pub data NoneLeft (S : Signature) (bytes : List ℕ) : Type 0 where
  of_family : (g : ℕ) → IsFamilyNumber S g → ((m : ℕ) → is_left (levels_left S (Elim g)) m ≡ false)
      → BeginsWord bytes (codes "elim " ++ (name_at S g ++ codes " ")) → NoneLeft S bytes
  of_eliminators : ((g m : ℕ) → IsFamilyNumber S g → is_left (levels_left S (Elim g)) m ≡ false)
      → BeginsWord bytes (codes "elim ") → NoneLeft S bytes
  of_axiom_k : S.has_k ≡ true → ((i : ℕ) → is_left (identities_left S) i ≡ false) → BeginsWord bytes (codes "axiomk ") → NoneLeft S bytes

-- ---- at the place

-- the first character, as far as it is there
abbrev pub first_character : List ℕ → List ℕ
first_character rest = take (width (first rest)) rest

-- the name at the front, with the character after it that ends it
abbrev pub first_name : List ℕ → List ℕ × List ℕ
first_name rest = (take (run_len rest) rest, first_character (drop (run_len rest) rest))

-- Texts that have the same bytes before p are refused there where they have the same character there.
abbrev pub IsWrongCharacter : Signature → List ℕ → ℕ → ℕ → Type 0
IsWrongCharacter S text from p =
    (other : List ℕ) → take p other ≡ take p text → first_character (drop p other) ≡ first_character (drop p text)
    → entry_from S other from ≡ Err (NotCoreText p)

-- Where a name begins there: texts that have the same bytes before p are refused there where they have the same name there.
abbrev pub IsWrongName : Signature → List ℕ → ℕ → ℕ → Type 0
IsWrongName S text from p =
    (0 < run_len (drop p text))
    × ((other : List ℕ) → take p other ≡ take p text → first_name (drop p other) ≡ first_name (drop p text)
    → entry_from S other from ≡ Err (NotCoreText p))

-- the line of a family that shows no record
pub record IsNoRecord (S : Signature) (rest : List ℕ) : Type 0 where
  pub raw : RawFamily
  pub past : List ℕ
  pub over : IsEntryOver S (RawFamilyOf raw)
  pub line : rest ≡ raw_line S (RawFamilyOf raw) ++ past
  pub none : shows_record (length S.entries) raw ≡ false

-- ---- the laws

-- a core file goes on with the bytes before p
pub record IsReached (S : Signature) (text : List ℕ) (from p : ℕ) : Type 0 where
  pub past : from ≤ p
  pub within : p ≤ length text
  pub before : GoesOn S (drop from (take p text)) ⊎ NoneLeft S (drop from (take p text))

pub record IsPlace (S : Signature) (text : List ℕ) (from p : ℕ) : Type 0 where
  pub reached : IsReached S text from p
  pub refused : IsWrongCharacter S text from p ⊎ IsWrongName S text from p ⊎ IsNoRecord S (drop p text)

-- The place of a refusal is the first one from which no core file over the entries goes on: before it one does, and what
-- is there is refused whatever follows it.
abbrev pub PlacesAreFirst : Type 0
PlacesAreFirst =
    (S : Signature) (text : List ℕ) (from p : ℕ) → length text < 2 ^ 32 → from ≤ length text →
    entry_from S text from ≡ Err (NotCoreText p) → IsPlace S text from p

-- Also where a term is too deep or too high, a core file goes on with the bytes before that place.
abbrev pub NestedPlacesAreReached : Type 0
NestedPlacesAreReached =
    (S : Signature) (text : List ℕ) (from p : ℕ) → length text < 2 ^ 32 → from ≤ length text →
    entry_from S text from ≡ Err (Nested p) → IsReached S text from p
