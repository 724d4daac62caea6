-- Which terms have a line in a block, and in which order.
use Rattle.std.specs.Prelude.{◌≡◌, ◌≢◌, ◌↔◌, ℕ, ◌<◌, ◌≤◌, true, false, List, [], ◌∷◌, ◌++◌, flat_map, AllPairs}
use Rattle.theory.specs.Terms.{Term, height}
use Rattle.theory.specs.Signatures.{Signature, Entry, names_of}
use Rattle.core_text.specs.EntryText.{entry_line}
use Rattle.core_text.specs.Lines.{AreInLine, HasNamesInLine}
use Rattle.core_text.specs.RawEntries.{entry_shown}
use Rattle.shared_text.specs.BlockText.{entry_block}
use Rattle.shared_text.specs.PrintedTerms.{is_among, ends_of, places, printed_children, printed_terms, shared_terms, times, written_terms}

-- a written term, or a printed child of a printed term
pub data IsPrinted (written : List Term) : Term → Type 0 where
  IsWritten : (t : Term) → is_among written t ≡ true → IsPrinted written t
  IsChild : (t u : Term) → IsPrinted written t → is_among (printed_children t) u ≡ true → IsPrinted written u

-- The printed terms are the written ones and all printed children below them.
abbrev pub PrintedTermsAreBelow : Type 0
PrintedTermsAreBelow = (written : List Term) (t : Term) → (is_among (printed_terms written) t ≡ true) ↔ IsPrinted written t

-- A term has a line exactly where it is printed, is higher than 1 and stands at two or more places.
abbrev pub SharedTermsStandTwice : Type 0
SharedTermsStandTwice =
    (written : List Term) (t : Term) →
    (is_among (shared_terms written) t ≡ true) ↔ (IsPrinted written t × (1 < height t) × (2 ≤ times t (places written)))

-- t is ended before u, another term, is ended for the first time
pub record EndsBefore (ends : List Term) (t u : Term) : Type 0 where
  pub before : List Term
  pub after : List Term
  pub place : ends ≡ before ++ t ∷ after
  pub later : is_among before u ≡ false
  pub other : t ≢ u

-- Printed terms, and so shared terms, come each once, in the order in which a reading from left to right first ends them.
abbrev pub TermsComeInOrder : Type 0
TermsComeInOrder =
    (written : List Term) →
    AllPairs (EndsBefore (flat_map (ends_of false) written)) (printed_terms written)
    × AllPairs (EndsBefore (flat_map (ends_of false) written)) (shared_terms written)

-- Where no term is shared, the block is the line of version 1.
abbrev pub BlocksMayBeLines : Type 0
BlocksMayBeLines =
    (S : Signature) (n : ℕ) (e : Entry) → shared_terms (written_terms (entry_shown n e)) ≡ [] → entry_block S n e ≡ entry_line S n e

-- No block begins another: texts that begin with blocks of entries and are equal begin with the same block.
abbrev pub BlocksAreApart : Type 0
BlocksAreApart =
    (S T : Signature) (n m : ℕ) (e f : Entry) (r s : List ℕ) → HasNamesInLine S → HasNamesInLine T → AreInLine (names_of e) → AreInLine (names_of f)
    → entry_block S n e ++ r ≡ entry_block T m f ++ s → entry_block S n e ≡ entry_block T m f
