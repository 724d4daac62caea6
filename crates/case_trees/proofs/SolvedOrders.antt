-- The order of the variables after a solution has each other level of the context once.
use Rattle.std.proofs.Common.{◌≡◌, ◌⊎◌, inl, inr, ℕ, zero, suc, ◌+◌, ◌<◌, ◌≤◌, ◌==◌, ◌||◌, Bool, true, false, cond, Some, List, [], ◌∷◌, ◌++◌, length, drop, slice_get, refl, sym, ap, ◌∙◌, subst as transport, arith, eq-eqb}
use Rattle.std.proofs.lemmas.Bool.{eqb-true, true≢false}
use Rattle.std.proofs.lemmas.List.{length-drop}
use Rattle.theory.specs.Telescopes.{Telescope}
use Rattle.tele_eq.specs.Items.{each_position}
use Rattle.tele_eq.proofs.Carrying.{IsFrom}
use Rattle.theory.proofs.Lists.{some_is}
use Rattle.tele_eq.specs.Levels.{place_in, is_among}
use Rattle.unification.specs.Occurrences.{without, dependants, order_without}
use Rattle.unification.proofs.Levels.{among-cases, among-own, among-later, not-among-head, among-from, from-lower}
use Rattle.unification.proofs.Dependants.{dependants-order, dependants-below}

at-among : (levels : List ℕ) (k j : ℕ) → slice_get levels k ≡ Some j → is_among j levels ≡ true
at-among [] k j e = absurd (grind arith)
at-among (t ∷ levels) zero j e = transport (λ i. is_among i (t ∷ levels) ≡ true) (some_is e) (among-own t levels)
at-among (t ∷ levels) (suc k) j e = among-later j t levels (at-among levels k j e)

-- the test of equality fails at different numbers
pub not-equal : (a b : ℕ) → (a ≡ b → ⊥) → (a == b) ≡ false
not-equal a b other = by (a == b) refl
  where
    by : (test : Bool) → (a == b) ≡ test → test ≡ false
    by true e = absurd (other (eqb-true a b e))
    by false e = refl

-- in levels that rise each one is at its own place
place-own : (n : ℕ) (levels : List ℕ) (k j : ℕ) → IsFrom n levels → slice_get levels k ≡ Some j → place_in levels j ≡ k
place-own n [] k j from e = absurd (grind arith)
place-own n (t ∷ levels) zero j from e = ap (λ test. cond test zero (place_in levels j + 1)) (eq-eqb t j (some_is e))
place-own n (t ∷ levels) (suc k) j from e =
    let low : t + 1 ≤ j = among-from (t + 1) levels from.1 j (at-among levels k j e) in
    let inner : place_in levels j ≡ k = place-own (t + 1) levels k j from.1 e in
    let other : (t == j) ≡ false = not-equal t j (λ same. omega arith) in
    ap (λ test. cond test zero (place_in levels j + 1)) other ∙ omega arith

place-first : (xs ys : List ℕ) (j : ℕ) → is_among j xs ≡ true → place_in (xs ++ ys) j ≡ place_in xs j
place-first [] ys j h = absurd (grind arith)
place-first (x ∷ xs) ys j h = by (x == j) refl (place-first xs ys j) h
  where
    by : (test : Bool) → (x == j) ≡ test → (is_among j xs ≡ true → place_in (xs ++ ys) j ≡ place_in xs j) → (test || is_among j xs) ≡ true
        → cond test zero (place_in (xs ++ ys) j + 1) ≡ cond test zero (place_in xs j + 1)
    by true e rest k = refl
    by false e rest k = ap (λ i. i + 1) (rest k)

place-later : (xs ys : List ℕ) (j : ℕ) → is_among j xs ≡ false → place_in (xs ++ ys) j ≡ length xs + place_in ys j
place-later [] ys j h = omega arith
place-later (x ∷ xs) ys j h = by (x == j) (place-later xs ys j) h
  where
    by : (test : Bool) → (is_among j xs ≡ false → place_in (xs ++ ys) j ≡ length xs + place_in ys j) → (test || is_among j xs) ≡ false
        → cond test zero (place_in (xs ++ ys) j + 1) ≡ suc (length xs) + place_in ys j
    by true rest k = absurd (true≢false k)
    by false rest k = let e : place_in (xs ++ ys) j ≡ length xs + place_in ys j = rest k in omega arith

pub split-place : {A : Type 0} (xs ys : List A) (k : ℕ) (j : A) → slice_get (xs ++ ys) k ≡ Some j
    → (slice_get xs k ≡ Some j) ⊎ ((i : ℕ) × (k ≡ length xs + i) × (slice_get ys i ≡ Some j))
split-place [] ys k j e = inr (k, omega arith, e)
split-place (x ∷ xs) ys zero j e = inl e
split-place (x ∷ xs) ys (suc k) j e = by (split-place xs ys k j e)
  where
    by : (slice_get xs k ≡ Some j) ⊎ ((i : ℕ) × (k ≡ length xs + i) × (slice_get ys i ≡ Some j))
        → (slice_get xs k ≡ Some j) ⊎ ((i : ℕ) × (suc k ≡ suc (length xs) + i) × (slice_get ys i ≡ Some j))
    by (inl h) = inl h
    by (inr (i, place, there)) = inr (i, omega arith, there)

-- ---- positions that are kept

from-each : (at count : ℕ) → IsFrom at (each_position (λ j. j) at count)
from-each at zero = tt
from-each at (suc count) = (omega arith, from-each (at + 1) count)

each-below : (at count j : ℕ) → is_among j (each_position (λ j. j) at count) ≡ true → j < at + count
each-below at zero j h = absurd (grind arith)
each-below at (suc count) j h = by (among-cases j at (each_position (λ j. j) (at + 1) count) h) (each-below (at + 1) count j)
  where
    by : (at ≡ j) ⊎ (is_among j (each_position (λ j. j) (at + 1) count) ≡ true)
        → (is_among j (each_position (λ j. j) (at + 1) count) ≡ true → j < at + 1 + count) → j < at + suc count
    by (inl e) rest = omega arith
    by (inr k) rest = let low : j < at + 1 + count = rest k in omega arith

from-without : (n : ℕ) (out levels : List ℕ) → IsFrom n levels → IsFrom n (without out levels)
from-without n out [] from = tt
from-without n out (t ∷ levels) from = by (is_among t out) (from-without (t + 1) out levels from.1)
  where
    by : (test : Bool) → IsFrom (t + 1) (without out levels) → IsFrom n (cond test (without out levels) (t ∷ without out levels))
    by true rest = let low : n ≤ t = from.0 in from-lower n (t + 1) (without out levels) (omega arith) rest
    by false rest = (from.0, rest)

without-among : (out levels : List ℕ) (j : ℕ) → is_among j (without out levels) ≡ true → (is_among j levels ≡ true) × (is_among j out ≡ false)
without-among out [] j h = absurd (grind arith)
without-among out (t ∷ levels) j h = by (is_among t out) refl (without-among out levels j) h
  where
    by : (test : Bool) → is_among t out ≡ test → (is_among j (without out levels) ≡ true → (is_among j levels ≡ true) × (is_among j out ≡ false))
        → is_among j (cond test (without out levels) (t ∷ without out levels)) ≡ true → (is_among j (t ∷ levels) ≡ true) × (is_among j out ≡ false)
    by true e rest k = let (there, not_out) = rest k in (among-later j t levels there, not_out)
    by false e rest k = either_way (among-cases j t (without out levels) k)
      where
        either_way : (t ≡ j) ⊎ (is_among j (without out levels) ≡ true) → (is_among j (t ∷ levels) ≡ true) × (is_among j out ≡ false)
        either_way (inl same) =
            (transport (λ i. is_among i (t ∷ levels) ≡ true) same (among-own t levels), transport (λ i. is_among i out ≡ false) same e)
        either_way (inr later) = let (there, not_out) = rest later in (among-later j t levels there, not_out)

-- the variable at a place of the order is another one than that which is solved, and is at that place alone
pub order-own : (context : Telescope) (p k j : ℕ) → p < length context → slice_get (order_without context p) k ≡ Some j
    → (place_in (order_without context p) j ≡ k) × ((j < length context) × (j ≡ p → ⊥))
order-own context p k j less e = by (split-place kept moved k j e)
  where
    moved : List ℕ
    moved = dependants context p

    kept : List ℕ
    kept = without (p ∷ dependants context p) (each_position (λ j. j) 0 (length context))

    by : (slice_get kept k ≡ Some j) ⊎ ((i : ℕ) × (k ≡ length kept + i) × (slice_get moved i ≡ Some j))
        → (place_in (kept ++ moved) j ≡ k) × ((j < length context) × (j ≡ p → ⊥))
    by (inl there) =
        let among : is_among j kept ≡ true = at-among kept k j there in
        let (each, not_out) = without-among (p ∷ moved) (each_position (λ j. j) 0 (length context)) j among in
        let low : j < 0 + length context = each-below 0 (length context) j each in (
          place-first kept moved j among
              ∙ place-own 0 kept k j (from-without 0 (p ∷ moved) (each_position (λ j. j) 0 (length context)) (from-each 0 (length context))) there,
          (omega arith, λ same. not-among-head j p moved not_out (sym same)),
        )
    by (inr (i, place, there)) =
        let from : IsFrom (p + 1) moved = dependants-order (p + 1) (p ∷ []) (drop (p + 1) context) in
        let among : is_among j moved ≡ true = at-among moved i j there in
        let below : j < p + 1 + length (drop (p + 1) context) = dependants-below (p + 1) (p ∷ []) (drop (p + 1) context) j among in
        let above : p + 1 ≤ j = among-from (p + 1) moved from j among in (
          place-later kept moved j (not-kept among (is_among j kept) refl) ∙ (ap (λ d. length kept + d) (place-own (p + 1) moved i j from there) ∙ sym place),
          (omega (arith, length-drop (p + 1) context), λ same. omega arith),
        )
      where
        not-kept : is_among j moved ≡ true → (test : Bool) → is_among j kept ≡ test → is_among j kept ≡ false
        not-kept among true h =
            let (each, not_out) = without-among (p ∷ moved) (each_position (λ j. j) 0 (length context)) j h in
            absurd (true≢false (sym (among-later j p moved among) ∙ not_out))
        not-kept among false h = h
