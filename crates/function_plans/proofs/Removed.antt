-- The first item of a list, and a last one more, under a map.
use Rattle.std.proofs.Common.{◌≡◌, ◌<◌, List, [], ◌∷◌, ◌++◌, length, map, remove, slice_index_or, refl, sym, ap, ap₂, ◌∙◌, arith}

pub first-removed : {A B : Type 0} (f : A → B) (xs rest : List A) (x : A) → 0 < length xs → x ≡ slice_index_or xs 0 x → rest ≡ remove xs 0
    → map f xs ≡ f x ∷ map f rest
first-removed f [] rest x some value items = absurd (omega (arith, some))
first-removed f (y ∷ ys) rest x some value items = ap₂ (λ first others. f first ∷ map f others) (sym value) (sym items)

pub map-last : {A B : Type 0} (f : A → B) (xs all : List A) (x : A) → all ≡ xs ++ x ∷ [] → map f all ≡ map f xs ++ f x ∷ []
map-last f xs all x e = ap (map f) e ∙ over f xs x
  where
    over : {A B : Type 0} (f : A → B) (xs : List A) (x : A) → map f (xs ++ x ∷ []) ≡ map f xs ++ f x ∷ []
    over f [] x = refl
    over f (y ∷ ys) x = ap (λ zs. f y ∷ zs) (over f ys x)
