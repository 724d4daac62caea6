-- Properties of each entry that is read: it may be there, its terms are low, and reading goes forward.
use Rattle.std.specs.Prelude.{◌≡◌, ◌≢◌, ℕ, ◌<◌, ◌≤◌, List, length, None, Some, Ok, All, AllPairs}
use Rattle.theory.specs.Signatures.{Signature}
use Rattle.core_sig.specs.Names.{find}
use Rattle.core_text.specs.EntryParts.{HasLowTerms}
use Rattle.core_text.specs.EntryReading.{entry_from}
use Rattle.core_text.specs.RawEntries.{RawEntry}
use Rattle.core_text.specs.Spellings.{IsEntryOver}

-- names that the signature lacks, all different
pub record AreFresh (S : Signature) (names : List (List ℕ)) : Type 0 where
  pub unknown : All (λ name. find S name ≡ None) names
  pub distinct : AllPairs (λ x y. x ≢ y) names

-- a line may say it after the entries S, and its terms are not too high
abbrev pub IsReadEntry : Signature → RawEntry → Type 0
IsReadEntry S raw = IsEntryOver S raw × HasLowTerms raw

-- An entry that is read may be there, and the offset after it lies after the one before it.
abbrev pub WhatIsRead : Type 0
WhatIsRead =
    (S : Signature) (text : List ℕ) (from : ℕ) (e : RawEntry) (to : ℕ) → from ≤ length text →
    entry_from S text from ≡ Ok (Some (e, to)) → IsReadEntry S e × (from < to) × (to ≤ length text)
