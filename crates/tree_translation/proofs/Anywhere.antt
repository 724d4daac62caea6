-- Some element of a list that is made of others.
use Rattle.std.proofs.Common.{◌⊎◌, inl, inr, zero, suc, List, [], ◌∷◌, ◌++◌, flat_map, Any, refl, sym, subst, arith}

pub any-first : {A : Type 0} (P : A → Type 0) (x : A) (xs : List A) → P x → Any P (x ∷ xs)
any-first P x xs p = (zero, x, omega arith, refl, p)

pub any-more : {A : Type 0} (P : A → Type 0) (y : A) (xs : List A) → Any P xs → Any P (y ∷ xs)
any-more P y xs (k, x, within, at, p) = (suc k, x, omega arith, at, p)

pub any-only : {A : Type 0} (P : A → Type 0) (x : A) → P x → Any P (x ∷ [])
any-only P x p = any-first P x [] p

pub only-any : {A : Type 0} (P : A → Type 0) (x : A) → Any P (x ∷ []) → P x
only-any P x (zero, y, within, at, p) = subst P (sym at) p
only-any P x (suc k, y, within, at, p) = absurd (omega arith)

-- it is the first one, or a later one
first-or_more : {A : Type 0} (P : A → Type 0) (x : A) (xs : List A) → Any P (x ∷ xs) → P x ⊎ Any P xs
first-or_more P x xs (zero, y, within, at, p) = inl (subst P (sym at) p)
first-or_more P x xs (suc k, y, within, at, p) = inr (k, y, omega arith, at, p)

pub any-left : {A : Type 0} (P : A → Type 0) (xs ys : List A) → Any P xs → Any P (xs ++ ys)
any-left P [] ys (k, x, within, at, p) = absurd (omega arith)
any-left P (x ∷ xs) ys h = elim (first-or_more P x xs h) [
  | inl p ↦ any-first P x (xs ++ ys) p
  | inr k ↦ any-more P x (xs ++ ys) (any-left P xs ys k)
]

pub any-right : {A : Type 0} (P : A → Type 0) (xs ys : List A) → Any P ys → Any P (xs ++ ys)
any-right P [] ys h = h
any-right P (x ∷ xs) ys h = any-more P x (xs ++ ys) (any-right P xs ys h)

pub any-cases : {A : Type 0} (P : A → Type 0) (xs ys : List A) → Any P (xs ++ ys) → Any P xs ⊎ Any P ys
any-cases P [] ys h = inr h
any-cases P (x ∷ xs) ys h = by (first-or_more P x (xs ++ ys) h) (any-cases P xs ys)
  where
    by : P x ⊎ Any P (xs ++ ys) → (Any P (xs ++ ys) → Any P xs ⊎ Any P ys) → Any P (x ∷ xs) ⊎ Any P ys
    by (inl p) rest = inl (any-first P x xs p)
    by (inr k) rest = later (rest k)
      where
        later : Any P xs ⊎ Any P ys → Any P (x ∷ xs) ⊎ Any P ys
        later (inl l) = inl (any-more P x xs l)
        later (inr l) = inr l

-- in lists in a row
pub any-flat : {A B : Type 0} (P : B → Type 0) (f : A → List B) (xs : List A) → Any P (flat_map f xs) → Any (λ x. Any P (f x)) xs
any-flat P f [] (k, x, within, at, p) = absurd (omega arith)
any-flat P f (x ∷ xs) h = elim (any-cases P (f x) (flat_map f xs) h) [
  | inl k ↦ any-first (λ y. Any P (f y)) x xs k
  | inr k ↦ any-more (λ y. Any P (f y)) x xs (any-flat P f xs k)
]

pub flat-any : {A B : Type 0} (P : B → Type 0) (f : A → List B) (xs : List A) → Any (λ x. Any P (f x)) xs → Any P (flat_map f xs)
flat-any P f [] (k, x, within, at, p) = absurd (omega arith)
flat-any P f (x ∷ xs) h = elim (first-or_more (λ y. Any P (f y)) x xs h) [
  | inl k ↦ any-left P (f x) (flat_map f xs) k
  | inr k ↦ any-right P (f x) (flat_map f xs) (flat-any P f xs k)
]
