-- The variables after the new one: in order, below the context's length, and the type of a variable before it mentions none.
use Rattle.std.proofs.Common.{◌≡◌, ℕ, zero, suc, ◌+◌, ◌-◌, ◌≤◌, ◌<◌, ◌⊎◌, inl, inr, Bool, true, false, ◌||◌, cond, List, [], ◌∷◌, length, refl, subst as transport, arith}
use Rattle.theory.specs.Terms.{Term}
use Rattle.tele_eq.specs.Levels.{has_level, is_among}
use Rattle.tele_eq.specs.Dependences.{has_variable}
use Rattle.tele_eq.specs.Items.{term_at}
use Rattle.tele_eq.proofs.Carrying.{IsFrom}
use Rattle.unification.proofs.Cases.{either}
use Rattle.unification.proofs.Dependants.{none-occurs}
use Rattle.unification.proofs.Levels.{among-cases, among-own, among-later, not-among-tail, among-from, from-lower, length-without}
use Rattle.with_abstraction.specs.Orders.{behind_from, behind, in_front}

pub behind-order : (n j : ℕ) (found : List ℕ) (types : List Term) → IsFrom j (behind_from n j found types)
behind-order n j found [] = tt
behind-order n j found (a ∷ types) = by (behind-order n (j + 1) (j ∷ found) types) (behind-order n (j + 1) found types) (has_level (n + 1) found a)
  where
    by : IsFrom (j + 1) (behind_from n (j + 1) (j ∷ found) types) → IsFrom (j + 1) (behind_from n (j + 1) found types)
        → (b : Bool) → IsFrom j (cond b (j ∷ behind_from n (j + 1) (j ∷ found) types) (behind_from n (j + 1) found types))
    by one other true = (omega arith, one)
    by one other false = from-lower j (j + 1) (behind_from n (j + 1) found types) (omega arith) other

pub behind-below : (n j : ℕ) (found : List ℕ) (types : List Term) (l : ℕ) → is_among l (behind_from n j found types) ≡ true → l < j + length types
behind-below n j found [] l h = absurd (cc)
behind-below n j found (a ∷ types) l h =
    by (behind-below n (j + 1) (j ∷ found) types l) (behind-below n (j + 1) found types l) (has_level (n + 1) found a) h
  where
    by : (is_among l (behind_from n (j + 1) (j ∷ found) types) ≡ true → l < j + 1 + length types)
        → (is_among l (behind_from n (j + 1) found types) ≡ true → l < j + 1 + length types) → (b : Bool)
        → is_among l (cond b (j ∷ behind_from n (j + 1) (j ∷ found) types) (behind_from n (j + 1) found types)) ≡ true
        → l < j + length (a ∷ types)
    by one other true k = elim (among-cases l j (behind_from n (j + 1) (j ∷ found) types) k) [
      | inl e ↦ omega arith
      | inr there ↦ let lt : l < j + 1 + length types = one there in omega arith
    ]
    by one other false k = let lt : l < j + 1 + length types = other k in omega arith

-- all variables but the new one come before it or after
pub length-both : (n : ℕ) (types : List Term) → length types ≡ n → length (in_front n types) + length (behind n types) ≡ n
length-both n types e =
    length-without (behind n types) 0 n (behind-order n 0 (n ∷ []) types)
    (λ l h. let lt : l < 0 + length types = behind-below n 0 (n ∷ []) types l h in omega arith)

-- The type of a variable that is not after mentions no level that was found before, and none of those after.
pub type-lacks : (n j : ℕ) (found : List ℕ) (types : List Term) (k : ℕ) → k < length types → is_among (j + k) (behind_from n j found types) ≡ false
    → (i : ℕ) → (is_among i found ≡ true) ⊎ ((i < j + k) × (is_among i (behind_from n j found types) ≡ true))
    → has_variable (n + 1 - (i + 1)) (term_at types k) ≡ false
type-lacks n j found [] k lt none i known = absurd (omega arith)
type-lacks n j found (a ∷ types) zero lt none i known = by (has_level (n + 1) found a) refl none known
  where
    by : (b : Bool) → has_level (n + 1) found a ≡ b
        → is_among (j + zero) (cond b (j ∷ behind_from n (j + 1) (j ∷ found) types) (behind_from n (j + 1) found types)) ≡ false
        → (is_among i found ≡ true) ⊎ ((i < j + zero) × (is_among i (cond b (j ∷ behind_from n (j + 1) (j ∷ found) types) (behind_from n (j + 1) found types)) ≡ true))
        → has_variable (n + 1 - (i + 1)) a ≡ false
    by true e absent is =
        let here : is_among (j + zero) (j ∷ behind_from n (j + 1) (j ∷ found) types) ≡ true =
        transport (λ x. is_among x (j ∷ behind_from n (j + 1) (j ∷ found) types) ≡ true) (let same : j ≡ j + zero = omega arith in same)
        (among-own j (behind_from n (j + 1) (j ∷ found) types)) in
        absurd (cc)
    by false e absent (inl is) = none-occurs (n + 1) found a e i is
    by false e absent (inr is) =
        let lower : i < j + zero = is.0 in
        let le : j + 1 ≤ i = among-from (j + 1) (behind_from n (j + 1) found types) (behind-order n (j + 1) found types) i is.1 in
        absurd (omega arith)
type-lacks n j found (a ∷ types) (suc k) lt none i known =
    by (type-lacks n (j + 1) (j ∷ found) types k (omega arith)) (type-lacks n (j + 1) found types k (omega arith)) (has_level (n + 1) found a) none known
  where
    by : (is_among (j + 1 + k) (behind_from n (j + 1) (j ∷ found) types) ≡ false → (i : ℕ)
        → (is_among i (j ∷ found) ≡ true) ⊎ ((i < j + 1 + k) × (is_among i (behind_from n (j + 1) (j ∷ found) types) ≡ true))
        → has_variable (n + 1 - (i + 1)) (term_at types k) ≡ false)
        → (is_among (j + 1 + k) (behind_from n (j + 1) found types) ≡ false → (i : ℕ)
        → (is_among i found ≡ true) ⊎ ((i < j + 1 + k) × (is_among i (behind_from n (j + 1) found types) ≡ true))
        → has_variable (n + 1 - (i + 1)) (term_at types k) ≡ false)
        → (b : Bool)
        → is_among (j + suc k) (cond b (j ∷ behind_from n (j + 1) (j ∷ found) types) (behind_from n (j + 1) found types)) ≡ false
        → (is_among i found ≡ true) ⊎ ((i < j + suc k) × (is_among i (cond b (j ∷ behind_from n (j + 1) (j ∷ found) types) (behind_from n (j + 1) found types)) ≡ true))
        → has_variable (n + 1 - (i + 1)) (term_at types k) ≡ false
    by one other true absent is =
        one
        (transport (λ x. is_among x (behind_from n (j + 1) (j ∷ found) types) ≡ false) (let e : j + suc k ≡ j + 1 + k = omega arith in e)
        (not-among-tail (j + suc k) j (behind_from n (j + 1) (j ∷ found) types) absent))
        i (found-there is)
      where
        found-there : (is_among i found ≡ true) ⊎ ((i < j + suc k) × (is_among i (j ∷ behind_from n (j + 1) (j ∷ found) types) ≡ true))
            → (is_among i (j ∷ found) ≡ true) ⊎ ((i < j + 1 + k) × (is_among i (behind_from n (j + 1) (j ∷ found) types) ≡ true))
        found-there (inl h) = inl (among-later i j found h)
        found-there (inr h) = elim (among-cases i j (behind_from n (j + 1) (j ∷ found) types) h.1) [
          | inl same ↦ inl (transport (λ x. is_among x (j ∷ found) ≡ true) same (among-own j found))
          | inr there ↦ let low : i < j + suc k = h.0 in inr (omega arith, there)
        ]
    by one other false absent is =
        other
        (transport (λ x. is_among x (behind_from n (j + 1) found types) ≡ false) (let e : j + suc k ≡ j + 1 + k = omega arith in e) absent)
        i (known-there is)
      where
        known-there : (is_among i found ≡ true) ⊎ ((i < j + suc k) × (is_among i (behind_from n (j + 1) found types) ≡ true))
            → (is_among i found ≡ true) ⊎ ((i < j + 1 + k) × (is_among i (behind_from n (j + 1) found types) ≡ true))
        known-there (inl h) = inl h
        known-there (inr h) = let low : i < j + suc k = h.0 in inr (omega arith, h.1)

some-occurs : (P : Type 0) (n : ℕ) (levels : List ℕ) (t : Term) → has_level n levels t ≡ true
    → ((i : ℕ) → is_among i levels ≡ true → has_variable (n - (i + 1)) t ≡ true → P) → P
some-occurs P n [] t h k = absurd (cc)
some-occurs P n (p ∷ levels) t h k =
    by (λ f. some-occurs P n levels t f (λ i there has. k i (among-later i p levels there) has)) (has_variable (n - (p + 1)) t) refl h
  where
    by : (has_level n levels t ≡ true → P) → (b : Bool) → has_variable (n - (p + 1)) t ≡ b → (b || has_level n levels t) ≡ true → P
    by rest true e f = k p (among-own p levels) e
    by rest false e f = rest f

-- levels that are found are none of the kept ones
abbrev pub AreOthers : (n : ℕ) (kept found : List ℕ) → Type 0
AreOthers n kept found = (i : ℕ) → is_among i found ≡ true → (i < n + 1) × (is_among i kept ≡ false)

-- the types of kept variables have kept variables alone
abbrev pub AreClosed : (n : ℕ) (kept : List ℕ) (j : ℕ) (types : List Term) → Type 0
AreClosed n kept j types =
    (k : ℕ) → k < length types → is_among (j + k) kept ≡ true → (i : ℕ) → i < n + 1 → has_variable (n + 1 - (i + 1)) (term_at types k) ≡ true
    → is_among i kept ≡ true

-- None of the kept variables comes after.
pub kept-front : (n : ℕ) (kept : List ℕ) (j : ℕ) (found : List ℕ) (types : List Term) → j + length types ≤ n → AreOthers n kept found → AreClosed n kept j types
    → (l : ℕ) → is_among l (behind_from n j found types) ≡ true → is_among l kept ≡ false
kept-front n kept j found [] le others closed l h = absurd (cc)
kept-front n kept j found (a ∷ types) le others closed l h =
    by (λ none there. kept-front n kept (j + 1) (j ∷ found) types (omega arith) (more none) later l there)
    (λ there. kept-front n kept (j + 1) found types (omega arith) others later l there) (has_level (n + 1) found a) refl h
  where
    later : AreClosed n kept (j + 1) types
    later k lt here i low has =
        closed (suc k) (omega arith) (transport (λ x. is_among x kept ≡ true) (let e : j + 1 + k ≡ j + suc k = omega arith in e) here) i low has

    own : has_level (n + 1) found a ≡ true → is_among j kept ≡ false
    own e = elim (either (is_among j kept)) [
      | inr none ↦ none
      | inl here ↦
          some-occurs (is_among j kept ≡ false) (n + 1) found a e
          (λ i there has.
          let o = others i there in
          let yes : is_among i kept ≡ true =
          closed 0 (omega arith) (transport (λ x. is_among x kept ≡ true) (let s : j ≡ j + 0 = omega arith in s) here) i o.0 has in
          let no : is_among i kept ≡ false = o.1 in
          absurd (cc))
    ]

    more : is_among j kept ≡ false → AreOthers n kept (j ∷ found)
    more none i h = elim (among-cases i j found h) [
      | inl e ↦ (omega arith, transport (λ x. is_among x kept ≡ false) e none)
      | inr there ↦ others i there
    ]

    by : (is_among j kept ≡ false → is_among l (behind_from n (j + 1) (j ∷ found) types) ≡ true → is_among l kept ≡ false)
        → (is_among l (behind_from n (j + 1) found types) ≡ true → is_among l kept ≡ false) → (b : Bool) → has_level (n + 1) found a ≡ b
        → is_among l (cond b (j ∷ behind_from n (j + 1) (j ∷ found) types) (behind_from n (j + 1) found types)) ≡ true → is_among l kept ≡ false
    by one other true e k = elim (among-cases l j (behind_from n (j + 1) (j ∷ found) types) k) [
      | inl same ↦ transport (λ x. is_among x kept ≡ false) same (own e)
      | inr there ↦ one (own e) there
    ]
    by one other false e k = other k
