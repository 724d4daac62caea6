-- The elements of a list, and the first one that passes a test.
use Rattle.std.proofs.Common.{◌≡◌, ◌⊎◌, inl, inr, ℕ, zero, suc, ◌+◌, ◌<◌, Bool, true, false, cond, Some, List, [], ◌∷◌, ◌++◌, flat_map, map, refl, sym, ap, ◌∙◌, subst as transport, arith}
use Rattle.std.proofs.lemmas.Option.{none-some}
use Rattle.std.specs.List.{filter, range_with_len, find as first_in}
use Rattle.theory.proofs.Lists.{some_is}

abbrev pub In : {A : Type 0} → A → List A → Type 0
In x [] = ⊥
In x (y ∷ ys) = (x ≡ y) ⊎ In x ys

pub in-left : {A : Type 0} (x : A) (xs ys : List A) → In x xs → In x (xs ++ ys)
in-left x [] ys h = absurd h
in-left x (y ∷ xs) ys (inl e) = inl e
in-left x (y ∷ xs) ys (inr h) = inr (in-left x xs ys h)

pub in-right : {A : Type 0} (x : A) (xs ys : List A) → In x ys → In x (xs ++ ys)
in-right x [] ys h = h
in-right x (y ∷ xs) ys h = inr (in-right x xs ys h)

pub in-cases : {A : Type 0} (x : A) (xs ys : List A) → In x (xs ++ ys) → In x xs ⊎ In x ys
in-cases x [] ys h = inr h
in-cases x (y ∷ xs) ys (inl e) = inl (inl e)
in-cases x (y ∷ xs) ys (inr h) = elim (in-cases x xs ys h) [
  | inl k ↦ inl (inr k)
  | inr k ↦ inr k
]

pub in-flat : {A B : Type 0} (f : A → List B) (y : A) (x : B) (ys : List A) → In y ys → In x (f y) → In x (flat_map f ys)
in-flat f y x [] k h = absurd k
in-flat f y x (z ∷ ys) (inl e) h = in-left x (f z) (flat_map f ys) (transport (λ w. In x (f w)) e h)
in-flat f y x (z ∷ ys) (inr k) h = in-right x (f z) (flat_map f ys) (in-flat f y x ys k h)

pub flat-in : {A B : Type 0} (f : A → List B) (x : B) (ys : List A) → In x (flat_map f ys) → (y : A) × In y ys × In x (f y)
flat-in f x [] h = absurd h
flat-in f x (z ∷ ys) h = elim (in-cases x (f z) (flat_map f ys) h) [
  | inl k ↦ (z, inl refl, k)
  | inr k ↦ let r = flat-in f x ys k in (r.0, inr r.1, r.2)
]

pub in-map : {A B : Type 0} (f : A → B) (y : A) (ys : List A) → In y ys → In (f y) (map f ys)
in-map f y [] k = absurd k
in-map f y (z ∷ ys) (inl e) = inl (ap f e)
in-map f y (z ∷ ys) (inr k) = inr (in-map f y ys k)

pub map-in : {A B : Type 0} (f : A → B) (x : B) (ys : List A) → In x (map f ys) → (y : A) × In y ys × (x ≡ f y)
map-in f x [] k = absurd k
map-in f x (z ∷ ys) (inl e) = (z, inl refl, e)
map-in f x (z ∷ ys) (inr k) = let r = map-in f x ys k in (r.0, inr r.1, r.2)

pub in-range : (a n k : ℕ) → k < n → In (a + k) (range_with_len a n)
in-range a zero k lt = absurd (omega arith)
in-range a (suc n) zero lt = inl (omega arith)
in-range a (suc n) (suc k) lt =
    let e : a + suc k ≡ a + 1 + k = omega arith in inr (transport (λ v. In v (range_with_len (a + 1) n)) (sym e) (in-range (a + 1) n k (omega arith)))

pub in-first : (n k : ℕ) → k < n → In k (range_with_len 0 n)
in-first n k lt = let e : 0 + k ≡ k = omega arith in transport (λ v. In v (range_with_len 0 n)) e (in-range 0 n k lt)

pub range-in : (a n k : ℕ) → In k (range_with_len a n) → k < a + n
range-in a zero k h = absurd h
range-in a (suc n) k (inl e) = omega (arith, e)
range-in a (suc n) k (inr h) = omega (arith, range-in (a + 1) n k h)

pub in-filter : {A : Type 0} (q : A → Bool) (x : A) (xs : List A) → In x xs → q x ≡ true → In x (filter q xs)
in-filter q x [] k h = absurd k
in-filter q x (y ∷ xs) (inl e) h = transport (λ b. In x (cond b (y ∷ filter q xs) (filter q xs))) (sym (ap q (sym e) ∙ h)) (inl e)
in-filter q x (y ∷ xs) (inr k) h = by (q y) (in-filter q x xs k h)
  where
    by : (b : Bool) → In x (filter q xs) → In x (cond b (y ∷ filter q xs) (filter q xs))
    by true k = inr k
    by false k = k

pub filter-in : {A : Type 0} (q : A → Bool) (x : A) (xs : List A) → In x (filter q xs) → In x xs × (q x ≡ true)
filter-in q x [] h = absurd h
filter-in q x (y ∷ xs) h = by (q y) refl (filter-in q x xs) h
  where
    by : (b : Bool) → q y ≡ b → (In x (filter q xs) → In x xs × (q x ≡ true)) → In x (cond b (y ∷ filter q xs) (filter q xs))
        → In x (y ∷ xs) × (q x ≡ true)
    by true e rest (inl is) = (inl is, ap q is ∙ e)
    by true e rest (inr k) = let r = rest k in (inr r.0, r.1)
    by false e rest k = let r = rest k in (inr r.0, r.1)

pub in-found : {A : Type 0} (p : A → Bool) (x : A) (xs : List A) → In x xs → p x ≡ true → (y : A) × (first_in p xs ≡ Some y)
in-found {A} p x [] k h = absurd k
in-found {A} p x (z ∷ xs) (inl e) h = (z, ap (λ b. cond b (Some z) (first_in p xs)) (ap p (sym e) ∙ h))
in-found {A} p x (z ∷ xs) (inr k) h = by (p z) (in-found p x xs k h)
  where
    by : (b : Bool) → (y : A) × (first_in p xs ≡ Some y) → (y : A) × (cond b (Some z) (first_in p xs) ≡ Some y)
    by true r = (z, refl)
    by false r = r

pub found-in : {A : Type 0} (p : A → Bool) (x : A) (xs : List A) → first_in p xs ≡ Some x → In x xs × (p x ≡ true)
found-in p x [] h = absurd (none-some x h)
found-in p x (z ∷ xs) h = by (p z) refl (found-in p x xs) h
  where
    by : (b : Bool) → p z ≡ b → (first_in p xs ≡ Some x → In x xs × (p x ≡ true)) → cond b (Some z) (first_in p xs) ≡ Some x
        → In x (z ∷ xs) × (p x ≡ true)
    by true e rest is = (inl (sym (some_is is)), ap p (sym (some_is is)) ∙ e)
    by false e rest is = let r = rest is in (inr r.0, r.1)
