-- Lists that grow by one item or more at their end.
use Rattle.std.proofs.Common.{◌≡◌, List, [], ◌∷◌, ◌++◌, map, refl, ap}
use Rattle.tele_eq.proofs.Growing.{append-none, map-snoc-append}
use Rattle.leaf_terms.proofs.Mentions.{append-append}

pub map-snoc : {A B : Type 0} (f : A → B) (xs : List A) (x : A) → map f (xs ++ x ∷ []) ≡ map f xs ++ f x ∷ []
map-snoc f [] x = refl
map-snoc f (y ∷ xs) x = ap (λ zs. f y ∷ zs) (map-snoc f xs x)

pub ruleset pushing = (map-snoc, append-append)
