-- A slice, and the lists of a plan, from a place on.
use Rattle.std.proofs.Common.{◌≡◌, ◌≤◌, ◌-◌, ◌+◌, ℕ, suc, Some, List, [], ◌∷◌, length, map, take, drop, get_or, slice_get, refl, sym, ap, ap₂, ◌∙◌, subst as transport, arith}
use Rattle.case_trees.proofs.pattern_vectors.CommonColumns.{rest-of}
use Rattle.function_session.specs.function_lines.Conditions.{AreFrom}

-- a slice is its first element and the others
pub whole-of : {A : Type 0} (xs : List A) (x : A) → 1 ≤ length xs → x ≡ get_or xs 0 x → x ∷ take (length xs - 1) (drop 1 xs) ≡ xs
whole-of [] x some is = absurd (omega (arith, some))
whole-of (y ∷ xs) x some is = ap₂ (λ z zs. z ∷ zs) is (rest-of (y ∷ xs))

-- the first element is at its place in the whole, and the others are from the next place on
pub first-from : {A : Type 0} (k : ℕ) (a : A) (rest whole : List A) → AreFrom k (a ∷ rest) whole → slice_get whole k ≡ Some a
first-from k a rest whole from = (let place : k + 0 ≡ k = omega arith in ap (slice_get whole) (sym place)) ∙ from 0 a refl

pub rest-from : {A : Type 0} (k next : ℕ) (a : A) (rest whole : List A) → next ≡ k + 1 → AreFrom k (a ∷ rest) whole → AreFrom next rest whole
rest-from k next a rest whole is from = λ j b e.
    (let place : next + j ≡ k + suc j = omega (arith, is) in ap (slice_get whole) place) ∙ from (suc j) b e

module _ {A B : Type 0} (f : A → B) (k : ℕ) (x : A) (xs : List A) (whole : List B) (some : 1 ≤ length xs) (is : x ≡ get_or xs 0 x)
    (from : AreFrom k (map f xs) whole) where
  with-first : AreFrom k (f x ∷ map f (take (length xs - 1) (drop 1 xs))) whole
  with-first = transport (λ ys. AreFrom k (map f ys) whole) (sym (whole-of xs x some is)) from

  -- so it is of a slice
  pub item-from : slice_get whole k ≡ Some (f x)
  item-from = first-from k (f x) (map f (take (length xs - 1) (drop 1 xs))) whole with-first

  pub others-from : (next : ℕ) → next ≡ k + 1 → AreFrom next (map f (take (length xs - 1) (drop 1 xs))) whole
  others-from next step = rest-from k next (f x) (map f (take (length xs - 1) (drop 1 xs))) whole step with-first
