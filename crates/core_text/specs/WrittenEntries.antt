-- Entries that may follow others in a core file: where the names so far are readable, each of them is read back.
use Rattle.std.specs.Prelude.{◌≡◌, ◌≢◌, ℕ, ◌<◌, ◌^◌, true, List, length, AllPairs}
use Rattle.theory.specs.Signatures.{Signature, Entry, FamilyOf, IsEntryAt, names_of, names}
use Rattle.theory.specs.SignatureScopes.{IsFamilyNumber}
use Rattle.core_text.specs.DeclaredNames.{shape_of}
use Rattle.core_text.specs.EntryParts.{IsEntryWith, HasLowTerms}
use Rattle.core_text.specs.EntryReading.{shows_entry}
use Rattle.core_text.specs.ReadableNames.{IsReadableName, HasReadableNames}
use Rattle.core_text.specs.RawEntries.{entry_shown}
use Rattle.core_text.specs.ReadBack.{EntryReadsBack}
use Rattle.core_text.specs.ReadLaws.{AreFresh}
use Rattle.core_text.specs.Spellings.{HasSymbols}
use Rattle.core_text.specs.declared.declared_names.Shape.TheVariants.{Declarable}

-- a readable name that a core file may declare
pub record IsDeclarableName (name : List ℕ) : Type 0 where
  pub readable : IsReadableName name
  pub shape : shape_of name ≡ Declarable

abbrev pub HasFewParameters : Entry → Type 0
HasFewParameters (FamilyOf f) = length f.parameters < 2 ^ 32
HasFewParameters _ = Unit {0}

-- The entry may follow those of T: it is scoped over them, its names may be declared, its terms are not too high, and it is
-- no instance that is there.
pub record MayFollow (T : Signature) (e : Entry) : Type 0 where
  pub over : IsEntryWith (HasSymbols T) (λ own found. IsDeclarableName) (IsFamilyNumber T) T (entry_shown (length T.entries) e)
  pub low : HasLowTerms (entry_shown (length T.entries) e)
  pub few : HasFewParameters e
  pub shown : shows_entry (length T.entries) (entry_shown (length T.entries) e) ≡ true

-- An entry that may follow others is read back over them, where it and they are entries of the signature S over which its
-- line is written.
abbrev pub EntriesThatFollow : Type 0
EntriesThatFollow =
    (T S : Signature) (e : Entry) → AllPairs (λ x y. x ≢ y) (names T) → HasReadableNames T →
    ((n : ℕ) (x : Entry) → IsEntryAt T n x → IsEntryAt S n x) → IsEntryAt S (length T.entries) e →
    AreFresh T (names_of e) → MayFollow T e → EntryReadsBack T S e
