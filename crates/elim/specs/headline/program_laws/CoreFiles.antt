-- The definition of a core file, and its conditions on the entries of a signature.
use Rattle.std.specs.Prelude.{◌≡◌, ◌<◌, ◌≤◌, ◌^◌, ℕ, Bool, List, length, None, Ok, All}
use Rattle.theory.specs.Prelude.{prelude}
use Rattle.theory.specs.Signatures.{Entry, FamilyOf, EliminatorAt, AxiomKAt, Definition, Signature, IsEntryAt, names_of}
use Rattle.theory.specs.Terms.{height}
use Rattle.core_text.specs.EntryReading.{entry_from}
use Rattle.core_text.specs.ReadableNames.{HasReadableNames}
use Rattle.core_text.specs.WrittenEntries.{IsDeclarableName}
use Rattle.core_text.specs.RawEntries.{type_shown, constructor_type_shown}
use Rattle.elim.specs.elim_program.VerifyHeadline.{Holds}

-- The text has a head and after it the entries of the signature, which are read one by one, and no further entry. The levels that a
-- family keeps are not read.
pub record IsCoreFile (k : Bool) (text : List ℕ) (S : Signature) : Type 0 where
  pub offset : ℕ
  pub names : List (List ℕ)
  pub held : Holds k text S offset names
  pub ended : entry_from S text offset ≡ Ok None

-- the line of entry number n shows no term that is higher than 2,000
abbrev pub IsLowEntry : ℕ → Entry → Type 0
IsLowEntry n (FamilyOf f) =
    (length f.parameters < 2 ^ 32) × All (λ a. height a ≤ 2000) f.parameters × (height (type_shown f) ≤ 2000)
    × All (λ c. height (constructor_type_shown n f c) ≤ 2000) f.constructors
IsLowEntry n (EliminatorAt g m) = Unit {0}
IsLowEntry n (AxiomKAt i m) = Unit {0}
IsLowEntry n (Definition name type body) = (height type ≤ 2000) × (height body ≤ 2000)

-- Names are readable, those of each entry after the prelude are names that a core file may declare, and its terms are not too
-- high for one.
pub record IsWritable (S : Signature) : Type 0 where
  pub readable : HasReadableNames S
  pub names : (n : ℕ) (e : Entry) → length (prelude S.has_k).entries ≤ n → IsEntryAt S n e → All IsDeclarableName (names_of e)
  pub low : (n : ℕ) (e : Entry) → length (prelude S.has_k).entries ≤ n → IsEntryAt S n e → IsLowEntry n e
