-- Two items at the end of a list, with others after them.
use Rattle.std.proofs.Common.{◌≡◌, List, [], ◌∷◌, ◌++◌, refl, ap}

pub pair-append : {A : Type 0} (xs : List A) (x y : A) (ys : List A) → (xs ++ x ∷ y ∷ []) ++ ys ≡ xs ++ x ∷ y ∷ ys
pair-append [] x y ys = refl
pair-append (z ∷ xs) x y ys = ap (λ zs. z ∷ zs) (pair-append xs x y ys)

pub ruleset pairs = (pair-append)
