-- Lists of levels: those that rise, those that are left, and their places.
use Rattle.std.proofs.Common.{◌≡◌, ◌⊎◌, inl, inr, ℕ, zero, suc, ◌+◌, ◌<◌, ◌≤◌, Bool, true, false, cond, Some, List, [], ◌∷◌, ◌++◌, length, map, get_or, slice_get, refl, sym, ap, ap₂, ◌∙◌, subst, arith}
use Rattle.theory.proofs.Lists.{some_is}
use Rattle.tele_eq.specs.Levels.{is_among}
use Rattle.tele_eq.proofs.Carrying.{IsFrom}
use Rattle.unification.specs.Occurrences.{without}
use Rattle.unification.proofs.Cases.{less-or_same}
use Rattle.unification.proofs.Levels.{among-cases, among-own, among-later, among-from, from-lower}
use Rattle.tree_translation.specs.Standings.{levels_from}

-- ---- elements

-- an element at a number, whatever is asked for beyond the end
pub get-there : {A : Type 0} (xs : List A) (k : ℕ) (x d : A) → slice_get xs k ≡ Some x → get_or xs k d ≡ x
get-there [] k x d e = absurd (grind arith)
get-there (y ∷ xs) zero x d e = some_is e
get-there (y ∷ xs) (suc k) x d e = get-there xs k x d e

pub there-get : {A : Type 0} (xs : List A) (k : ℕ) (d : A) → k < length xs → slice_get xs k ≡ Some (get_or xs k d)
there-get [] k d lt = absurd (omega arith)
there-get (y ∷ xs) zero d lt = refl
there-get (y ∷ xs) (suc k) d lt = there-get xs k d (omega arith)

pub there-below : {A : Type 0} (xs : List A) (k : ℕ) (x : A) → slice_get xs k ≡ Some x → k < length xs
there-below [] k x e = absurd (grind arith)
there-below (y ∷ xs) zero x e = omega arith
there-below (y ∷ xs) (suc k) x e = let lt : k < length xs = there-below xs k x e in omega arith

-- the element at a number of a list that is mapped
pub record IsImage {A B : Type 0} (f : A → B) (xs : List A) (k : ℕ) (y : B) : Type 0 where
  pub source : A
  pub there : slice_get xs k ≡ Some source
  pub same : f source ≡ y

pub map-there : {A B : Type 0} (f : A → B) (xs : List A) (k : ℕ) (y : B) → slice_get (map f xs) k ≡ Some y → IsImage f xs k y
map-there f [] k y e = absurd (grind arith)
map-there f (x ∷ xs) zero y e = record { source = x; there = refl; same = some_is e }
map-there f (x ∷ xs) (suc k) y e = let r = map-there f xs k y e in record { source = r.source; there = r.there; same = r.same }

pub at-among : (levels : List ℕ) (k j : ℕ) → slice_get levels k ≡ Some j → is_among j levels ≡ true
at-among [] k j e = absurd (grind arith)
at-among (t ∷ levels) zero j e = subst (λ i. is_among i (t ∷ levels) ≡ true) (some_is e) (among-own t levels)
at-among (t ∷ levels) (suc k) j e = among-later j t levels (at-among levels k j e)

-- ---- levels that rise

pub from-each : (at count : ℕ) → IsFrom at (levels_from at count)
from-each at zero = tt
from-each at (suc count) = (omega arith, from-each (at + 1) count)

pub from-without : (n : ℕ) (out levels : List ℕ) → IsFrom n levels → IsFrom n (without out levels)
from-without n out [] from = tt
from-without n out (t ∷ levels) from = by (is_among t out) (from-without (t + 1) out levels from.1)
  where
    by : (test : Bool) → IsFrom (t + 1) (without out levels) → IsFrom n (cond test (without out levels) (t ∷ without out levels))
    by true rest = let low : n ≤ t = from.0 in from-lower n (t + 1) (without out levels) (omega arith) rest
    by false rest = (from.0, rest)

-- each level has one place
pub from-apart : (n : ℕ) (levels : List ℕ) (i j l : ℕ) → IsFrom n levels → slice_get levels i ≡ Some l → slice_get levels j ≡ Some l → i ≡ j
from-apart n [] i j l from e f = absurd (grind arith)
from-apart n (t ∷ levels) zero zero l from e f = refl
from-apart n (t ∷ levels) zero (suc j) l from e f =
    let same : t ≡ l = some_is e in
    let low : t + 1 ≤ l = among-from (t + 1) levels from.1 l (at-among levels j l f) in
    absurd (omega arith)
from-apart n (t ∷ levels) (suc i) zero l from e f =
    let same : t ≡ l = some_is f in
    let low : t + 1 ≤ l = among-from (t + 1) levels from.1 l (at-among levels i l e) in
    absurd (omega arith)
from-apart n (t ∷ levels) (suc i) (suc j) l from e f = ap (λ k. suc k) (from-apart (t + 1) levels i j l from.1 e f)

pub get-among : (levels : List ℕ) (k d : ℕ) → k < length levels → is_among (get_or levels k d) levels ≡ true
get-among levels k d lt = at-among levels k (get_or levels k d) (there-get levels k d lt)

-- later ones are greater
pub climbs : (n : ℕ) (levels : List ℕ) (i j : ℕ) → IsFrom n levels → i < j → j < length levels → get_or levels i 0 < get_or levels j 0
climbs n [] i j from lt within = absurd (omega arith)
climbs n (t ∷ levels) i zero from lt within = absurd (omega arith)
climbs n (t ∷ levels) zero (suc j) from lt within =
    let low : t + 1 ≤ get_or levels j 0 = among-from (t + 1) levels from.1 (get_or levels j 0) (get-among levels j 0 (omega arith)) in omega arith
climbs n (t ∷ levels) (suc i) (suc j) from lt within = climbs (t + 1) levels i j from.1 (omega arith) (omega arith)

pub rises : (n : ℕ) (levels : List ℕ) (i j : ℕ) → IsFrom n levels → i ≤ j → j < length levels → get_or levels i 0 ≤ get_or levels j 0
rises n levels i j from le within = elim (less-or_same i j le) [
  | inl lt ↦ let low : get_or levels i 0 < get_or levels j 0 = climbs n levels i j from lt within in omega arith
  | inr e ↦ let same : get_or levels i 0 ≡ get_or levels j 0 = ap (λ k. get_or levels k 0) e in omega arith
]

-- ---- levels from one on

pub length-levels : (at count : ℕ) → length (levels_from at count) ≡ count
length-levels at zero = refl
length-levels at (suc count) = ap (λ k. suc k) (length-levels (at + 1) count)

pub levels-at : (at count k l : ℕ) → slice_get (levels_from at count) k ≡ Some l → (l ≡ at + k) × (k < count)
levels-at at zero k l e = absurd (grind arith)
levels-at at (suc count) zero l e = let same : at ≡ l = some_is e in (omega arith, omega arith)
levels-at at (suc count) (suc k) l e = let r = levels-at (at + 1) count k l e in let f : l ≡ at + 1 + k = r.0 in let g : k < count = r.1 in (omega arith, omega arith)

pub get-levels : (at count k : ℕ) → k < count → get_or (levels_from at count) k 0 ≡ at + k
get-levels at zero k lt = absurd (omega arith)
get-levels at (suc count) zero lt = omega arith
get-levels at (suc count) (suc k) lt = get-levels (at + 1) count k (omega arith) ∙ omega arith

pub levels-more : (at count more : ℕ) → levels_from at count ++ levels_from (at + count) more ≡ levels_from at (count + more)
levels-more at zero more = ap₂ levels_from (omega arith) (omega arith)
levels-more at (suc count) more =
    let e : at + suc count ≡ at + 1 + count = omega arith in
    let f : suc count + more ≡ suc (count + more) = omega arith in
    ap (λ from. at ∷ (levels_from (at + 1) count ++ levels_from from more)) e
    ∙ (ap (λ levels. at ∷ levels) (levels-more (at + 1) count more) ∙ ap (levels_from at) (sym f))

pub each-below : (at count j : ℕ) → is_among j (levels_from at count) ≡ true → j < at + count
each-below at zero j h = absurd (grind arith)
each-below at (suc count) j h = by (among-cases j at (levels_from (at + 1) count) h) (each-below (at + 1) count j)
  where
    by : (at ≡ j) ⊎ (is_among j (levels_from (at + 1) count) ≡ true)
        → (is_among j (levels_from (at + 1) count) ≡ true → j < at + 1 + count) → j < at + suc count
    by (inl e) rest = omega arith
    by (inr k) rest = let low : j < at + 1 + count = rest k in omega arith

-- ---- levels that are left

pub without-among : (out levels : List ℕ) (j : ℕ) → is_among j (without out levels) ≡ true → (is_among j levels ≡ true) × (is_among j out ≡ false)
without-among out [] j h = absurd (grind arith)
without-among out (t ∷ levels) j h = by (is_among t out) refl (without-among out levels j) h
  where
    by : (test : Bool) → is_among t out ≡ test → (is_among j (without out levels) ≡ true → (is_among j levels ≡ true) × (is_among j out ≡ false))
        → is_among j (cond test (without out levels) (t ∷ without out levels)) ≡ true → (is_among j (t ∷ levels) ≡ true) × (is_among j out ≡ false)
    by true e rest k = let r = rest k in (among-later j t levels r.0, r.1)
    by false e rest k = either_way (among-cases j t (without out levels) k)
      where
        either_way : (t ≡ j) ⊎ (is_among j (without out levels) ≡ true) → (is_among j (t ∷ levels) ≡ true) × (is_among j out ≡ false)
        either_way (inl same) = (subst (λ i. is_among i (t ∷ levels) ≡ true) same (among-own t levels), subst (λ i. is_among i out ≡ false) same e)
        either_way (inr later) = let r = rest later in (among-later j t levels r.0, r.1)
