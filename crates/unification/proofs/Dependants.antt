-- The dependants of a variable: they come after it, in order, and the type of a variable that is none of them mentions none.
use Rattle.std.proofs.Common.{◌≡◌, ℕ, zero, suc, ◌+◌, ◌-◌, ◌<◌, ◌≤◌, ◌⊎◌, inl, inr, ◌||◌, Bool, true, false, cond, List, [], ◌∷◌, length, refl, subst, arith}
use Rattle.theory.specs.Terms.{Term}
use Rattle.theory.specs.Telescopes.{Telescope}
use Rattle.tele_eq.specs.Levels.{has_level, is_among}
use Rattle.tele_eq.specs.Dependences.{has_variable}
use Rattle.tele_eq.specs.Items.{term_at}
use Rattle.tele_eq.proofs.Carrying.{IsFrom}
use Rattle.unification.specs.Occurrences.{dependants_from}
use Rattle.unification.proofs.Levels.{among-cases, among-own, among-later, not-among-tail, among-from, from-lower}

pub dependants-order : (at : ℕ) (found : List ℕ) (types : Telescope) → IsFrom at (dependants_from at found types)
dependants-order at found [] = tt
dependants-order at found (a ∷ types) =
    by (dependants-order (at + 1) (at ∷ found) types) (dependants-order (at + 1) found types) (has_level at found a)
  where
    by : IsFrom (at + 1) (dependants_from (at + 1) (at ∷ found) types) → IsFrom (at + 1) (dependants_from (at + 1) found types)
        → (b : Bool) → IsFrom at (cond b (at ∷ dependants_from (at + 1) (at ∷ found) types) (dependants_from (at + 1) found types))
    by one other true = (omega arith, one)
    by one other false = from-lower at (at + 1) (dependants_from (at + 1) found types) (omega arith) other

pub dependants-below : (at : ℕ) (found : List ℕ) (types : Telescope) (j : ℕ) → is_among j (dependants_from at found types) ≡ true → j < at + length types
dependants-below at found [] j h = absurd (grind arith)
dependants-below at found (a ∷ types) j h =
    by (dependants-below (at + 1) (at ∷ found) types j) (dependants-below (at + 1) found types j) (has_level at found a) h
  where
    by : (is_among j (dependants_from (at + 1) (at ∷ found) types) ≡ true → j < at + 1 + length types)
        → (is_among j (dependants_from (at + 1) found types) ≡ true → j < at + 1 + length types) → (b : Bool)
        → is_among j (cond b (at ∷ dependants_from (at + 1) (at ∷ found) types) (dependants_from (at + 1) found types)) ≡ true
        → j < at + length (a ∷ types)
    by one other true k = elim (among-cases j at (dependants_from (at + 1) (at ∷ found) types) k) [
      | inl same ↦ omega arith
      | inr there ↦ let lt : j < at + 1 + length types = one there in omega arith
    ]
    by one other false k = let lt : j < at + 1 + length types = other k in omega arith

-- none of the levels occurs in a term that has none of them
pub none-occurs : (n : ℕ) (levels : List ℕ) (t : Term) → has_level n levels t ≡ false → (i : ℕ) → is_among i levels ≡ true
    → has_variable (n - (i + 1)) t ≡ false
none-occurs n [] t h i k = absurd (grind arith)
none-occurs n (p ∷ levels) t h i k = by (none-occurs n levels t) (has_variable (n - (p + 1)) t) refl h
  where
    by : (has_level n levels t ≡ false → (i : ℕ) → is_among i levels ≡ true → has_variable (n - (i + 1)) t ≡ false)
        → (b : Bool) → has_variable (n - (p + 1)) t ≡ b → (b || has_level n levels t) ≡ false → has_variable (n - (i + 1)) t ≡ false
    by rest true e f = absurd (grind arith)
    by rest false e f = elim (among-cases i p levels k) [
      | inl same ↦ subst (λ x. has_variable (n - (x + 1)) t ≡ false) same e
      | inr there ↦ rest f i there
    ]

-- The type of a variable that is no dependant mentions no level that was found before, and none of the dependants before it.
pub type-lacks : (at : ℕ) (found : List ℕ) (types : Telescope) (k : ℕ) → k < length types → is_among (at + k) (dependants_from at found types) ≡ false
    → (i : ℕ) → i < at + k → (is_among i found ≡ true) ⊎ (is_among i (dependants_from at found types) ≡ true)
    → has_variable (at + k - (i + 1)) (term_at types k) ≡ false
type-lacks at found [] k lt none i low known = absurd (omega arith)
type-lacks at found (a ∷ types) zero lt none i low known = by (has_level at found a) refl none known
  where
    by : (b : Bool) → has_level at found a ≡ b
        → is_among (at + zero) (cond b (at ∷ dependants_from (at + 1) (at ∷ found) types) (dependants_from (at + 1) found types)) ≡ false
        → (is_among i found ≡ true) ⊎ (is_among i (cond b (at ∷ dependants_from (at + 1) (at ∷ found) types) (dependants_from (at + 1) found types)) ≡ true)
        → has_variable (at + zero - (i + 1)) a ≡ false
    by true e absent is =
        let here : is_among (at + zero) (at ∷ dependants_from (at + 1) (at ∷ found) types) ≡ true =
        subst (λ x. is_among x (at ∷ dependants_from (at + 1) (at ∷ found) types) ≡ true) (let same : at ≡ at + zero = omega arith in same)
        (among-own at (dependants_from (at + 1) (at ∷ found) types)) in
        absurd (cc)
    by false e absent (inl is) =
        subst (λ x. has_variable (x - (i + 1)) a ≡ false) (let same : at ≡ at + zero = omega arith in same) (none-occurs at found a e i is)
    by false e absent (inr is) =
        let le : at + 1 ≤ i = among-from (at + 1) (dependants_from (at + 1) found types) (dependants-order (at + 1) found types) i is in
        absurd (omega arith)
type-lacks at found (a ∷ types) (suc k) lt none i low known =
    subst (λ x. has_variable (x - (i + 1)) (term_at types k) ≡ false) next
    (by (type-lacks (at + 1) (at ∷ found) types k (omega arith)) (type-lacks (at + 1) found types k (omega arith)) (has_level at found a) none known)
  where
    next : at + 1 + k ≡ at + suc k
    next = omega arith

    by : (is_among (at + 1 + k) (dependants_from (at + 1) (at ∷ found) types) ≡ false → (i : ℕ) → i < at + 1 + k
        → (is_among i (at ∷ found) ≡ true) ⊎ (is_among i (dependants_from (at + 1) (at ∷ found) types) ≡ true)
        → has_variable (at + 1 + k - (i + 1)) (term_at types k) ≡ false)
        → (is_among (at + 1 + k) (dependants_from (at + 1) found types) ≡ false → (i : ℕ) → i < at + 1 + k
        → (is_among i found ≡ true) ⊎ (is_among i (dependants_from (at + 1) found types) ≡ true)
        → has_variable (at + 1 + k - (i + 1)) (term_at types k) ≡ false)
        → (b : Bool)
        → is_among (at + suc k) (cond b (at ∷ dependants_from (at + 1) (at ∷ found) types) (dependants_from (at + 1) found types)) ≡ false
        → (is_among i found ≡ true) ⊎ (is_among i (cond b (at ∷ dependants_from (at + 1) (at ∷ found) types) (dependants_from (at + 1) found types)) ≡ true)
        → has_variable (at + 1 + k - (i + 1)) (term_at types k) ≡ false
    by one other true absent is =
        one
        (subst (λ x. is_among x (dependants_from (at + 1) (at ∷ found) types) ≡ false) (let e : at + suc k ≡ at + 1 + k = omega arith in e)
        (not-among-tail (at + suc k) at (dependants_from (at + 1) (at ∷ found) types) absent))
        i (omega arith) (found-there is)
      where
        found-there : (is_among i found ≡ true) ⊎ (is_among i (at ∷ dependants_from (at + 1) (at ∷ found) types) ≡ true)
            → (is_among i (at ∷ found) ≡ true) ⊎ (is_among i (dependants_from (at + 1) (at ∷ found) types) ≡ true)
        found-there (inl h) = inl (among-later i at found h)
        found-there (inr h) = elim (among-cases i at (dependants_from (at + 1) (at ∷ found) types) h) [
          | inl same ↦ inl (subst (λ x. is_among x (at ∷ found) ≡ true) same (among-own at found))
          | inr there ↦ inr there
        ]
    by one other false absent is =
        other
        (subst (λ x. is_among x (dependants_from (at + 1) found types) ≡ false) (let e : at + suc k ≡ at + 1 + k = omega arith in e) absent)
        i (omega arith) is
