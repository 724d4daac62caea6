-- Terms of a line that are at most 2,000 high.
use Rattle.std.proofs.Common.{◌≡◌, Bool, true, false, ◌&&◌, List, [], ◌∷◌, ◌++◌, refl}
use Rattle.theory.specs.Terms.{Term}
use Rattle.core_terms.specs.Answers.{is_low, are_low}

-- those before a term, the term, and those after it
pub low_around : (xs : List Term) (t : Term) (ys : List Term) → are_low (xs ++ t ∷ ys) ≡ (are_low xs && (is_low t && are_low ys))
low_around [] t ys = refl
low_around (x ∷ xs) t ys = rw (low_around xs t ys) (assoc (is_low x) (are_low xs) (is_low t && are_low ys))
  where
    assoc : (a b c : Bool) → (a && (b && c)) ≡ ((a && b) && c)
    assoc true b c = refl
    assoc false b c = refl
