-- Lists of levels: which levels are among them, where, and in which order.
use Rattle.std.proofs.Common.{◌≡◌, ℕ, zero, suc, ◌+◌, ◌<◌, ◌≤◌, ◌⊎◌, inl, inr, ◌==◌, ◌||◌, Bool, true, false, cond, Some, List, [], ◌∷◌, ◌++◌, length, slice_get, refl, ap, subst, ◌∙◌, arith, eq-eqb, add-one}
use Rattle.std.proofs.lemmas.Bool.{eqb-true}
use Rattle.tele_eq.specs.Items.{each_position}
use Rattle.tele_eq.proofs.Carrying.{IsFrom}
use Rattle.tele_eq.specs.Levels.{place_in, is_among}
use Rattle.unification.specs.Occurrences.{without}
use Rattle.unification.proofs.Cases.{either}

-- ---- membership in lists of levels

pub among-cases : (j i : ℕ) (levels : List ℕ) → is_among j (i ∷ levels) ≡ true → (i ≡ j) ⊎ (is_among j levels ≡ true)
among-cases j i levels h = by (i == j) refl h
  where
    by : (b : Bool) → (i == j) ≡ b → (b || is_among j levels) ≡ true → (i ≡ j) ⊎ (is_among j levels ≡ true)
    by true e k = inl (eqb-true i j e)
    by false e k = inr k

pub among-own : (i : ℕ) (levels : List ℕ) → is_among i (i ∷ levels) ≡ true
among-own i levels = ap (λ b. b || is_among i levels) (eq-eqb i i refl)

pub among-later : (j i : ℕ) (levels : List ℕ) → is_among j levels ≡ true → is_among j (i ∷ levels) ≡ true
among-later j i levels h = by (i == j)
  where
    by : (b : Bool) → (b || is_among j levels) ≡ true
    by true = refl
    by false = h

pub among-left : (j : ℕ) (xs ys : List ℕ) → is_among j xs ≡ true → is_among j (xs ++ ys) ≡ true
among-left j [] ys h = absurd (grind arith)
among-left j (x ∷ xs) ys h = elim (among-cases j x xs h) [
  | inl e ↦ subst (λ i. is_among i (x ∷ (xs ++ ys)) ≡ true) e (among-own x (xs ++ ys))
  | inr k ↦ among-later j x (xs ++ ys) (among-left j xs ys k)
]

pub among-right : (j : ℕ) (xs ys : List ℕ) → is_among j ys ≡ true → is_among j (xs ++ ys) ≡ true
among-right j [] ys h = h
among-right j (x ∷ xs) ys h = among-later j x (xs ++ ys) (among-right j xs ys h)

pub not-among-head : (j i : ℕ) (levels : List ℕ) → is_among j (i ∷ levels) ≡ false → i ≡ j → ⊥
not-among-head j i levels h e =
    let k : is_among j (i ∷ levels) ≡ true = subst (λ x. is_among x (i ∷ levels) ≡ true) e (among-own i levels) in
    cc

pub not-among-tail : (j i : ℕ) (levels : List ℕ) → is_among j (i ∷ levels) ≡ false → is_among j levels ≡ false
not-among-tail j i levels h = by (is_among j levels) refl
  where
    by : (b : Bool) → is_among j levels ≡ b → is_among j levels ≡ false
    by true e = let k : is_among j (i ∷ levels) ≡ true = among-later j i levels e in cc
    by false e = e

-- ---- levels in order

pub among-from : (n : ℕ) (levels : List ℕ) → IsFrom n levels → (j : ℕ) → is_among j levels ≡ true → n ≤ j
among-from n [] from j h = absurd (grind arith)
among-from n (t ∷ levels) from j h =
    let le : n ≤ t = from.0 in elim (among-cases j t levels h) [
      | inl e ↦ omega arith
      | inr k ↦ let later : t + 1 ≤ j = among-from (t + 1) levels from.1 j k in omega arith
    ]

pub from-lower : (n m : ℕ) (levels : List ℕ) → n ≤ m → IsFrom m levels → IsFrom n levels
from-lower n m [] le from = tt
from-lower n m (t ∷ levels) le from = (let h : m ≤ t = from.0 in omega arith, from.1)

-- ---- places

pub place-there : (levels : List ℕ) (j : ℕ) → is_among j levels ≡ true → (place_in levels j < length levels) × (slice_get levels (place_in levels j) ≡ Some j)
place-there [] j h = absurd (grind arith)
place-there (i ∷ levels) j h = by (place-there levels j) (i == j) refl h
  where
    by : (is_among j levels ≡ true → (place_in levels j < length levels) × (slice_get levels (place_in levels j) ≡ Some j))
        → (b : Bool) → (i == j) ≡ b → (b || is_among j levels) ≡ true
        → (cond b 0 (place_in levels j + 1) < length (i ∷ levels)) × (slice_get (i ∷ levels) (cond b 0 (place_in levels j + 1)) ≡ Some j)
    by rest true e k = (omega arith, ap Some (eqb-true i j e))
    by rest false e k =
        let low : place_in levels j < length levels = (rest k).0 in
        (omega arith, ap (λ x. slice_get (i ∷ levels) x) (add-one (place_in levels j)) ∙ (rest k).1)

pub place-before : (xs ys : List ℕ) (j : ℕ) → is_among j xs ≡ true → place_in (xs ++ ys) j < length xs
place-before [] ys j h = absurd (grind arith)
place-before (i ∷ xs) ys j h = by (place-before xs ys j) (i == j) h
  where
    by : (is_among j xs ≡ true → place_in (xs ++ ys) j < length xs) → (b : Bool) → (b || is_among j xs) ≡ true
        → cond b 0 (place_in (xs ++ ys) j + 1) < length (i ∷ xs)
    by rest true k = omega arith
    by rest false k = let low : place_in (xs ++ ys) j < length xs = rest k in omega arith

-- ---- all levels from `at` on, and those of them that are not left out

pub each-among : (at count j : ℕ) → at ≤ j → j < at + count → is_among j (each_position (λ j. j) at count) ≡ true
each-among at zero j le lt = absurd (omega arith)
each-among at (suc count) j le lt = elim (either (at == j)) [
  | inl e ↦ ap (λ b. b || is_among j (each_position (λ j. j) (at + 1) count)) e
  | inr e ↦
      let other : at ≡ j → ⊥ = (λ (same : at ≡ j). let t : (at == j) ≡ true = eq-eqb at j same in cc) in
      among-later j at (each_position (λ j. j) (at + 1) count) (each-among (at + 1) count j (omega arith) (omega arith))
]

pub among-without : (j : ℕ) (out levels : List ℕ) → is_among j levels ≡ true → is_among j out ≡ false → is_among j (without out levels) ≡ true
among-without j out [] h k = absurd (grind arith)
among-without j out (i ∷ levels) h k = by (λ there. among-without j out levels there k) (is_among i out) refl
  where
    by : (is_among j levels ≡ true → is_among j (without out levels) ≡ true) → (b : Bool) → is_among i out ≡ b
        → is_among j (cond b (without out levels) (i ∷ without out levels)) ≡ true
    by rest true e = elim (among-cases j i levels h) [
      | inl same ↦ let t : is_among j out ≡ true = subst (λ x. is_among x out ≡ true) same e in absurd (cc)
      | inr there ↦ rest there
    ]
    by rest false e = elim (among-cases j i levels h) [
      | inl same ↦ subst (λ x. is_among x (i ∷ without out levels) ≡ true) same (among-own i (without out levels))
      | inr there ↦ among-later j i (without out levels) (rest there)
    ]

-- a level before all others can be left off from those that are left out
without-first : (o : ℕ) (out : List ℕ) (at count : ℕ) → o < at → without (o ∷ out) (each_position (λ j. j) at count) ≡ without out (each_position (λ j. j) at count)
without-first o out at zero lt = refl
without-first o out at (suc count) lt = by (without-first o out (at + 1) count (omega arith)) (o == at) refl
  where
    by : without (o ∷ out) (each_position (λ j. j) (at + 1) count) ≡ without out (each_position (λ j. j) (at + 1) count)
        → (b : Bool) → (o == at) ≡ b
        → cond (b || is_among at out) (without (o ∷ out) (each_position (λ j. j) (at + 1) count)) (at ∷ without (o ∷ out) (each_position (λ j. j) (at + 1) count))
        ≡ cond (is_among at out) (without out (each_position (λ j. j) (at + 1) count)) (at ∷ without out (each_position (λ j. j) (at + 1) count))
    by rest true e = let same : o ≡ at = eqb-true o at e in absurd (omega arith)
    by rest false e = ap (λ (xs : List ℕ). cond (is_among at out) xs (at ∷ xs)) rest

-- levels in order that are left out of so many make these so many fewer
pub length-without : (out : List ℕ) (at count : ℕ) → IsFrom at out → ((j : ℕ) → is_among j out ≡ true → j < at + count)
    → length (without out (each_position (λ j. j) at count)) + length out ≡ count
length-without [] at zero from low = refl
length-without (o ∷ out) at zero from low =
    let h : at ≤ o = from.0 in let k : o < at + zero = low o (among-own o out) in absurd (omega arith)
length-without [] at (suc count) from low =
    let rest : length (without [] (each_position (λ j. j) (at + 1) count)) + length {A = ℕ} [] ≡ count =
    length-without [] (at + 1) count tt (λ j h. absurd (grind arith)) in
    omega arith
length-without (o ∷ out) at (suc count) from low =
    by (length-without out (at + 1) count) (length-without (o ∷ out) (at + 1) count) (o == at) refl
  where
    h : at ≤ o
    h = from.0

    levels : List ℕ
    levels = each_position (λ j. j) (at + 1) count

    not-there : at < o → is_among at out ≡ false
    not-there lt = elim (either (is_among at out)) [
      | inl there ↦ let le : o + 1 ≤ at = among-from (o + 1) out from.1 at there in absurd (omega arith)
      | inr none ↦ none
    ]

    by : (IsFrom (at + 1) out → ((j : ℕ) → is_among j out ≡ true → j < at + 1 + count) → length (without out levels) + length out ≡ count)
        → (IsFrom (at + 1) (o ∷ out) → ((j : ℕ) → is_among j (o ∷ out) ≡ true → j < at + 1 + count) → length (without (o ∷ out) levels) + length (o ∷ out) ≡ count)
        → (b : Bool) → (o == at) ≡ b
        → length (cond (b || is_among at out) (without (o ∷ out) levels) (at ∷ without (o ∷ out) levels)) + length (o ∷ out) ≡ suc count
    by shorter same true e =
        let is : o ≡ at = eqb-true o at e in
        let rest : length (without out levels) + length out ≡ count =
        shorter (from-lower (at + 1) (o + 1) out (omega arith) from.1)
        (λ j k. let lt : j < at + suc count = low j (among-later j o out k) in omega arith) in
        ap (λ (xs : List ℕ). length xs + suc (length out)) (without-first o out (at + 1) count (omega arith)) ∙ omega arith
    by shorter same false e =
        let ne : o ≡ at → ⊥ = (λ (is : o ≡ at). let t : (o == at) ≡ true = eq-eqb o at is in cc) in
        let other : at < o = omega arith in
        let rest : length (without (o ∷ out) levels) + length (o ∷ out) ≡ count =
        same (omega arith, from.1) (λ j k. let lt : j < at + suc count = low j k in omega arith) in
        ap (λ b. length (cond b (without (o ∷ out) levels) (at ∷ without (o ∷ out) levels)) + length (o ∷ out)) (not-there other) ∙ omega arith
