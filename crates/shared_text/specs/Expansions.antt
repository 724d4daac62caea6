-- A block says the line of its entry: that is what is left where each `$n` is replaced by the term that it stands for.
use Rattle.std.specs.Prelude.{◌≡◌, ℕ, ◌==◌, Bool, true, false, not, ◌&&◌, List, [], ◌∷◌, ◌++◌, slice_get, Some, codes, decimal}
use Rattle.theory.specs.Signatures.{Signature, Entry, names_of}
use Rattle.core_text.specs.EntryText.{entry_line}
use Rattle.core_text.specs.Reading.{is_digit}
use Rattle.core_text.specs.SymbolNames.{name_at, constructor_name_at}
use Rattle.shared_text.specs.BlockText.{entry_block}

abbrev pub begins_with_digit : List ℕ → Bool
begins_with_digit [] = false
begins_with_digit (b ∷ rest) = is_digit b

-- The second text is the first one with text number n in the place of each `$n`.
pub data Expands (texts : List (List ℕ)) : List ℕ → List ℕ → Type 0 where
  Nothing : Expands texts [] []
  Byte : (b : ℕ) (rest out : List ℕ) → (b == 36) ≡ false → Expands texts rest out → Expands texts (b ∷ rest) (b ∷ out)
  Number : (n : ℕ) (text rest out : List ℕ) → slice_get texts n ≡ Some text → begins_with_digit rest ≡ false → Expands texts rest out
      → Expands texts (codes "$" ++ decimal n ++ rest) (text ++ out)

-- The block says the line after lines that share these texts: each line `share T` shares the text of T, in which the numbers of the lines
-- before it are replaced, and in the last line the numbers of all of them are.
pub data Says : List (List ℕ) → List ℕ → List ℕ → Type 0 where
  Share : (texts : List (List ℕ)) (term text rest line : List ℕ) → Expands texts term text → Says (texts ++ text ∷ []) rest line
      → Says texts (codes "share " ++ term ++ codes "\n" ++ rest) line
  Line : (texts : List (List ℕ)) (text line : List ℕ) → Expands texts text line → Says texts text line

-- whether no `$` is among the bytes
abbrev pub is_without_dollar : List ℕ → Bool
is_without_dollar [] = true
is_without_dollar (b ∷ bytes) = not (b == 36) && is_without_dollar bytes

abbrev pub AreWithoutDollar : List (List ℕ) → Type 0
AreWithoutDollar [] = Unit {0}
AreWithoutDollar (name ∷ names) = (is_without_dollar name ≡ true) × AreWithoutDollar names

-- no name by which a term over the signature is written has a `$`; none of a core file has one
pub record HasNamesWithoutDollar (S : Signature) : Type 0 where
  pub entries : (n : ℕ) → is_without_dollar (name_at S n) ≡ true
  pub constructors : (n c : ℕ) → is_without_dollar (constructor_name_at S n c) ≡ true

-- A block says the line of version 1 of its entry.
abbrev pub BlocksSayTheLine : Type 0
BlocksSayTheLine =
    (S : Signature) (n : ℕ) (e : Entry) → HasNamesWithoutDollar S → AreWithoutDollar (names_of e) → Says [] (entry_block S n e) (entry_line S n e)
