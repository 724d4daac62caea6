-- The first place at which a test along entries passes.
use Rattle.std.proofs.Common.{◌≡◌, ℕ, ◌+◌, Bool, position, List, [], ◌∷◌, refl, sym, ap, ◌∙◌, arith}
use Rattle.std.specs.List.{list_any, position_from}
use Rattle.std.specs.Option.{is_some}
use Rattle.std.proofs.lemmas.Iterator.Adapters.{position_from-zero}
use Rattle.theory.specs.Signatures.{Entry}

pub from-zero : (p : Entry → Bool) (xs : List Entry) → position_from p 0 xs ≡ position p xs
from-zero p xs = sym (position_from-zero p xs)

some-from : (p : Entry → Bool) (i : ℕ) (xs : List Entry) → is_some (position_from p i xs) ≡ list_any p xs
some-from p i [] = refl
some-from p i (x ∷ xs) = grind (arith, some-from p (i + 1) xs)

-- a place is there exactly where the test passes at all
pub some-position : (p : Entry → Bool) (xs : List Entry) → is_some (position p xs) ≡ list_any p xs
some-position p xs = ap is_some (position_from-zero p xs) ∙ some-from p 0 xs

pub ruleset place_laws = (from-zero, some-position)
