-- Lists whose terms are low.
use Rattle.std.proofs.Common.{◌≡◌, ℕ, zero, suc, ◌+◌, ◌-◌, ◌≤◌, ◌<◌, nat_le, Bool, true, false, ◌&&◌, cond, List, [], ◌∷◌, length, map, take, drop, length-drop, get_or, refl, sym, ap₂, Result, Ok, Err, arith}
use Rattle.std.proofs.lemmas.Bool.Decides.{nat_tests}
use Rattle.std.proofs.lemmas.List.{take_all}
use Rattle.theory.specs.Terms.{Term, height}
use Rattle.theory.specs.Telescopes.{Telescope}
use Rattle.theory.proofs.Heights.{height-lift}
use Rattle.core_terms.specs.Answers.{is_low, are_low, bounded_terms, and_then}
use Rattle.core_terms.specs.Meanings.{tree_of, tele_of}
use Rattle.core_terms.specs.declared.term.Term as code
use Rattle.core_terms.specs.declared.stop.Stop.{Stop}
use Rattle.core_terms.specs.declared.stop.Stop.TheVariants.{Deep}
use Rattle.tele_eq.specs.Dependences.{dependences}
use Rattle.tele_eq.specs.Environments.{Environment, outside}
use Rattle.tele_eq.specs.Items.{Item, AreSmall, AreSmallTerms, each_position, term_at}
use Rattle.tele_eq.specs.TelescopicEquality.{Lefts, as_bound, left_below, unless_fixed, equation_behind, equations}
use Rattle.problems.specs.Conditions.{AreLow, HaveFewVariables, HasFewVariables}
use Rattle.unification.specs.Heights.{most_places, equations_made, are_low_items}

pub and-parts : (b c : Bool) → (b && c) ≡ true → (b ≡ true) × (c ≡ true)
and-parts true true e = (refl, refl)
and-parts true false e = absurd (cc)
and-parts false c e = absurd (cc)

pub low-height : (t : Term) → is_low t ≡ true → height t ≤ 2000
low-height t e = grind (arith, nat_tests)

height-low : (t : Term) → height t ≤ 2000 → is_low t ≡ true
height-low t le = grind (arith, nat_tests)

pub low-terms : (terms : List Term) → are_low terms ≡ true → AreLow terms
low-terms [] e = tt
low-terms (t ∷ terms) e =
    let parts = and-parts (is_low t) (are_low terms) e in
    (low-height t parts.0, low-terms terms parts.1)

pub terms-low : (terms : List Term) → AreLow terms → are_low terms ≡ true
terms-low [] h = refl
terms-low (t ∷ terms) h = ap₂ ◌&&◌ (height-low t h.0) (terms-low terms h.1)

pub low-drop : (k : ℕ) (terms : List Term) → AreLow terms → AreLow (drop k terms)
low-drop zero terms h = h
low-drop (suc k) [] h = tt
low-drop (suc k) (t ∷ terms) h = low-drop k terms h.1

pub map-drop : {A B : Type 0} (f : A → B) (k : ℕ) (xs : List A) → map f (drop k xs) ≡ drop k (map f xs)
map-drop f zero xs = refl
map-drop f (suc k) [] = refl
map-drop f (suc k) (x ∷ xs) = map-drop f k xs

-- the elements from the k-th on, as a slice has them
pub slice-from : {A : Type 0} (k : ℕ) (xs : List A) → take (length xs - k) (drop k xs) ≡ drop k xs
slice-from k xs = let e = length-drop k xs in take_all (length xs - k) (drop k xs) (omega arith)

pub low-slice : (k : ℕ) (terms : List code.Term) → AreLow (tele_of terms) → AreLow (tele_of (take (length terms - k) (drop k terms)))
low-slice k terms h = rw (slice-from k terms, map-drop tree_of k terms) (low-drop k (tele_of terms) h)

low-each : (f : ℕ → Term) (at count : ℕ) → AreLow (each_position f at count) → (k : ℕ) → k < count → height (f (at + k)) ≤ 2000
low-each f at zero h k lt = absurd (omega arith)
low-each f at (suc count) h zero lt = let e : at + 0 ≡ at = omega arith in rw e h.0
low-each f at (suc count) h (suc k) lt =
    let e : at + suc k ≡ at + 1 + k = omega arith in rw e (low-each f (at + 1) count h.1 k (omega arith))

low-from_each : (terms : List Term) → ((k : ℕ) → k < length terms → height (term_at terms k) ≤ 2000) → AreLow terms
low-from_each [] h = tt
low-from_each (t ∷ terms) h = (h 0 (omega arith), low-from_each terms (λ k lt. h (suc k) (omega arith)))

-- ---- sides of equations

height-fixed : (X : List Item) (u : Environment) (w : Lefts) (positions : List ℕ) (j : ℕ) (z e : Environment) (depth : ℕ)
    → height (u depth j) ≤ height (unless_fixed X u w positions j z e depth)
height-fixed X u w [] j z e depth = omega arith
height-fixed X u w (s ∷ positions) j z e depth = omega arith

height-left : (n : ℕ) (X : List Item) (u z e : Environment) (depth j : ℕ) → height (u depth j) ≤ height (left_below n X u z e depth j)
height-left zero X u z e depth j = omega arith
height-left (suc n) X u z e depth j = height-fixed X u (left_below n X u) (dependences X j) j z e depth

height-sides : (n : ℕ) (X : List Item) (left right : List Term) (j : ℕ)
    → (height (term_at left j) ≤ height (equation_behind n X left right j)) × (height (term_at right j) ≤ height (equation_behind n X left right j))
height-sides n X left right j =
    let u = height-lift (term_at left j) j 0 in
    let v = height-lift (term_at right j) j 0 in
    let w = height-left n X (outside left) (outside right) as_bound j j in
    (omega arith, omega arith)

-- The sides of low equations are low.
pub low-sides : (X : List Item) (left right : List Term) → length left ≡ length X → length right ≡ length X
    → AreLow (equations X left right) → AreLow left × AreLow right
low-sides X left right el er h =
    let low : (k : ℕ) → k < length X → height (equation_behind (length X) X left right (0 + k)) ≤ 2000 = low-each (equation_behind (length X) X left right) 0 (length X) h in (
      low-from_each left (λ k lt.
          let e : 0 + k ≡ k = omega arith in
          let l = low k (omega arith) in
          let sides = height-sides (length X) X left right (0 + k) in
          rw (← e) (omega (arith, sides.0, l))),
      low-from_each right (λ k lt.
          let e : 0 + k ≡ k = omega arith in
          let l = low k (omega arith) in
          let sides = height-sides (length X) X left right (0 + k) in
          rw (← e) (omega (arith, sides.1, l))),
    )

deep-terms : (terms : List Term) → (AreLow terms → ⊥) → bounded_terms terms ≡ Err Deep
deep-terms terms high = go (are_low terms) refl
  where
    go : (b : Bool) → are_low terms ≡ b → cond {A = Result (List Term) Stop} b (Ok terms) (Err Deep) ≡ Err Deep
    go true e = absurd (high (low-terms terms e))
    go false e = refl

deep-made : (X : List Item) (left right : List Term) → (AreLow (equations X left right) → ⊥) → (few low : Bool)
    → cond {A = Result Telescope Stop} few (and_then (cond low (Ok X) (Err Deep)) (λ items. bounded_terms (equations items left right))) (Err Deep) ≡ Err Deep
deep-made X left right high true true = deep-terms (equations X left right) high
deep-made X left right high true false = refl
deep-made X left right high false low = refl

not-low : (terms : List Term) → are_low terms ≡ false → AreLow terms → ⊥
not-low terms e h = let k = terms-low terms h in absurd (cc)

pub deep-left : (X : List Item) (left right : List Term) → length left ≡ length X → length right ≡ length X → are_low left ≡ false
    → equations_made X left right ≡ Err Deep
deep-left X left right el er e =
    deep-made X left right (λ h. not-low left e (low-sides X left right el er h).0) (nat_le (length X) most_places) (are_low_items X)

pub deep-right : (X : List Item) (left right : List Term) → length left ≡ length X → length right ≡ length X → are_low right ≡ false
    → equations_made X left right ≡ Err Deep
deep-right X left right el er e =
    deep-made X left right (λ h. not-low right e (low-sides X left right el er h).1) (nat_le (length X) most_places) (are_low_items X)

pub small-terms : (terms : List Term) → are_low terms ≡ true → HaveFewVariables terms → AreSmallTerms terms
small-terms [] e h = tt
small-terms (t ∷ terms) e h =
    let parts = and-parts (is_low t) (are_low terms) e in
    ((low-height t parts.0, h.0), small-terms terms parts.1 h.1)

pub small-items : (X : List Item) → are_low_items X ≡ true → HasFewVariables X → AreSmall X
small-items [] e h = tt
small-items (x ∷ X) e h =
    let parts = and-parts (is_low x.type) (are_low_items X) e in
    ((low-height x.type parts.0, h.0), small-items X parts.1 h.1)

-- a slice that has a first item
pub first-item : {A : Type 0} (xs : List A) (x : A) → 1 ≤ length xs → x ≡ get_or xs 0 x → xs ≡ x ∷ take (length xs - 1) (drop 1 xs)
first-item [] x le e = absurd (omega arith)
first-item (y ∷ xs) x le e = ap₂ (λ z zs. z ∷ zs) (sym e) (sym (slice-from 1 (y ∷ xs)))
