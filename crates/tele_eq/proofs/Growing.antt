-- Lists that grow at their end.
use Rattle.std.proofs.Common.{◌≡◌, ℕ, ◌≤◌, List, [], ◌∷◌, ◌++◌, map, refl, ap}
use Rattle.tele_eq.specs.Items.{AreUpTo}

pub map-snoc-append : {A B : Type 0} (f : A → B) (xs : List A) (x : A) (ys : List B) → map f (xs ++ x ∷ []) ++ ys ≡ map f xs ++ f x ∷ ys
map-snoc-append f [] x ys = refl
map-snoc-append f (y ∷ xs) x ys = ap (λ zs. f y ∷ zs) (map-snoc-append f xs x ys)

pub append-none : {A : Type 0} (xs : List A) → xs ++ [] ≡ xs
append-none [] = refl
append-none (x ∷ xs) = ap (λ ys. x ∷ ys) (append-none xs)

pub ruleset growing = (map-snoc-append, append-none)

-- a list of numbers that grows

pub snoc-append : {A : Type 0} (xs : List A) (x : A) (ys : List A) → (xs ++ x ∷ []) ++ ys ≡ xs ++ x ∷ ys
snoc-append [] x ys = refl
snoc-append (y ∷ xs) x ys = ap (λ zs. y ∷ zs) (snoc-append xs x ys)

pub up_to-snoc : (n : ℕ) (xs : List ℕ) (x : ℕ) → AreUpTo n xs → x ≤ n → AreUpTo n (xs ++ x ∷ [])
up_to-snoc n [] x all le = (le, tt)
up_to-snoc n (y ∷ xs) x all le = (all.0, up_to-snoc n xs x all.1 le)

pub ruleset listing = (snoc-append, append-none, up_to-snoc)
