-- Lines among bytes: the line feed that ends each entry separates it from the next.
use Rattle.std.specs.Prelude.{◌≡◌, ℕ, Bool, true, not, ◌&&◌, ◌==◌, List, [], ◌∷◌, ◌++◌}
use Rattle.theory.specs.Signatures.{Entry, Signature, names_of}
use Rattle.core_text.specs.EntryText.{entry_line}
use Rattle.core_text.specs.SymbolNames.{name_at, constructor_name_at}

-- whether no line feed is among the bytes
abbrev pub is_in_line : List ℕ → Bool
is_in_line [] = true
is_in_line (b ∷ bytes) = not (b == 10) && is_in_line bytes

abbrev pub AreInLine : List (List ℕ) → Type 0
AreInLine [] = Unit {0}
AreInLine (name ∷ names) = (is_in_line name ≡ true) × AreInLine names

-- no name by which a term over the signature is written has a line feed
pub record HasNamesInLine (S : Signature) : Type 0 where
  pub entries : (n : ℕ) → is_in_line (name_at S n) ≡ true
  pub constructors : (n c : ℕ) → is_in_line (constructor_name_at S n c) ≡ true

-- No line begins another: texts that begin with lines of entries and are equal begin with the same line.
abbrev pub LinesAreApart : Type 0
LinesAreApart =
    (S T : Signature) (n m : ℕ) (e f : Entry) (r s : List ℕ) → HasNamesInLine S → HasNamesInLine T → AreInLine (names_of e) → AreInLine (names_of f)
    → entry_line S n e ++ r ≡ entry_line T m f ++ s → entry_line S n e ≡ entry_line T m f
