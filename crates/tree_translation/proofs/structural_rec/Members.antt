-- Tests of the elements of a list of positions.
use Rattle.std.proofs.Common.{◌≡◌, ℕ, Bool, true, ◌==◌, List, [], ◌∷◌, inl, inr, refl, ap, ◌∙◌}
use Rattle.std.specs.List.{list_any}
use Rattle.std.proofs.lemmas.Bool.{false≢true, or_left, or_right}
use Rattle.std.proofs.lemmas.Bool.Decides.{Decides-eqb}
use Rattle.case_below_gen.proofs.PartTests.{or-tells}
use Rattle.tele_eq.specs.Levels.{is_among}

-- an element that passes a test
pub record HasMember (p : ℕ → Bool) (xs : List ℕ) : Type 0 where
  pub k : ℕ
  pub among : is_among k xs ≡ true
  pub passes : p k ≡ true

pub among-first : (k : ℕ) (xs : List ℕ) → is_among k (k ∷ xs) ≡ true
among-first k xs = or_left (k == k) (is_among k xs) ((Decides-eqb k k).1 refl)

pub among-later : (k x : ℕ) (xs : List ℕ) → is_among k xs ≡ true → is_among k (x ∷ xs) ≡ true
among-later k x xs h = or_right (x == k) (is_among k xs) h

pub any-tells : (p : ℕ → Bool) (xs : List ℕ) → list_any p xs ≡ true → HasMember p xs
any-tells p [] h = absurd (false≢true h)
any-tells p (x ∷ xs) h = elim (or-tells (p x) (list_any p xs) h) [
  | inl here ↦ record { k = x; among = among-first x xs; passes = here }
  | inr later ↦ let m = any-tells p xs later in record { k = m.k; among = among-later m.k x xs m.among; passes = m.passes }
]

pub any-found : (p : ℕ → Bool) (xs : List ℕ) (k : ℕ) → is_among k xs ≡ true → p k ≡ true → list_any p xs ≡ true
any-found p [] k among h = absurd (false≢true among)
any-found p (x ∷ xs) k among h = elim (or-tells (x == k) (is_among k xs) among) [
  | inl here ↦ or_left (p x) (list_any p xs) (ap p ((Decides-eqb x k).0 here) ∙ h)
  | inr later ↦ or_right (p x) (list_any p xs) (any-found p xs k later h)
]
