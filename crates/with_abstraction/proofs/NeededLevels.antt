-- The variables that a scrutinee's type needs: those that it has, closed under those that their types have.
use Rattle.std.proofs.Common.{◌≡◌, ℕ, zero, suc, ◌+◌, ◌-◌, ◌≤◌, ◌<◌, ◌⊎◌, inl, inr, Bool, true, false, ◌||◌, cond, List, [], ◌∷◌, sym, subst as transport, arith}
use Rattle.std.proofs.lemmas.Bool.{or_left, or_right}
use Rattle.theory.specs.Terms.{Term}
use Rattle.tele_eq.specs.Levels.{is_among}
use Rattle.tele_eq.specs.Dependences.{has_variable}
use Rattle.tele_eq.specs.Items.{term_at}
use Rattle.unification.proofs.Cases.{here-or_below}
use Rattle.unification.proofs.Levels.{among-cases, among-own, among-later}
use Rattle.with_abstraction.specs.Needed.{is_mentioned, needed_below}

-- a level that is found is kept, with a level before it or without
found-more : (b : Bool) (i p : ℕ) (found : List ℕ) → is_among i found ≡ true → is_among i (cond b (p ∷ found) found) ≡ true
found-more true i p found h = among-later i p found h
found-more false i p found h = h

found-new : (b : Bool) (p : ℕ) (found : List ℕ) → b ≡ true → is_among p (cond b (p ∷ found) found) ≡ true
found-new true p found e = among-own p found
found-new false p found e = absurd (cc)

found-cases : (b : Bool) (i p : ℕ) (found : List ℕ) → is_among i (cond b (p ∷ found) found) ≡ true → (i ≡ p) ⊎ (is_among i found ≡ true)
found-cases true i p found h = elim (among-cases i p found h) [
  | inl e ↦ inl (sym e)
  | inr k ↦ inr k
]
found-cases false i p found h = inr h

pub needed-found : (n : ℕ) (types : List Term) (S : Term) (below : ℕ) (found : List ℕ) (i : ℕ) → is_among i found ≡ true
    → is_among i (needed_below n types S below found) ≡ true
needed-found n types S zero found i h = h
needed-found n types S (suc p) found i h =
    let test = has_variable (n - (p + 1)) S || is_mentioned n types p found in
    needed-found n types S p (cond test (p ∷ found) found) i (found-more test i p found h)

pub needed-cases : (n : ℕ) (types : List Term) (S : Term) (below : ℕ) (found : List ℕ) (i : ℕ) → is_among i (needed_below n types S below found) ≡ true
    → (is_among i found ≡ true) ⊎ (i < below)
needed-cases n types S zero found i h = inl h
needed-cases n types S (suc p) found i h =
    let test = has_variable (n - (p + 1)) S || is_mentioned n types p found in
    elim (needed-cases n types S p (cond test (p ∷ found) found) i h) [
      | inl k ↦ elim (found-cases test i p found k) [
        | inl e ↦ inr (omega arith)
        | inr there ↦ inl there
      ]
      | inr lt ↦ inr (omega arith)
    ]

-- the type's own variables are needed
pub needed-own : (n : ℕ) (types : List Term) (S : Term) (below : ℕ) (found : List ℕ) (i : ℕ) → i < below → has_variable (n - (i + 1)) S ≡ true
    → is_among i (needed_below n types S below found) ≡ true
needed-own n types S zero found i lt h = absurd (omega arith)
needed-own n types S (suc p) found i lt h =
    let test = has_variable (n - (p + 1)) S || is_mentioned n types p found in
    elim (here-or_below i p (omega arith)) [
      | inl e ↦
          needed-found n types S p (cond test (p ∷ found) found) i
          (transport (λ x. is_among x (cond test (p ∷ found) found) ≡ true) (sym e)
          (found-new test p found
          (or_left (has_variable (n - (p + 1)) S) (is_mentioned n types p found) (transport (λ x. has_variable (n - (x + 1)) S ≡ true) e h))))
      | inr lower ↦ needed-own n types S p (cond test (p ∷ found) found) i lower h
    ]

mentioned : (n : ℕ) (types : List Term) (p : ℕ) (levels : List ℕ) (j : ℕ) → is_among j levels ≡ true → has_variable (n - (p + 1)) (term_at types j) ≡ true
    → is_mentioned n types p levels ≡ true
mentioned n types p [] j h k = absurd (cc)
mentioned n types p (i ∷ levels) j h k = elim (among-cases j i levels h) [
  | inl e ↦
      or_left (has_variable (n - (p + 1)) (term_at types i)) (is_mentioned n types p levels)
      (transport (λ x. has_variable (n - (p + 1)) (term_at types x) ≡ true) (sym e) k)
  | inr there ↦
      or_right (has_variable (n - (p + 1)) (term_at types i)) (is_mentioned n types p levels) (mentioned n types p levels j there k)
]

-- So are those of their types, where each type has only variables that come before its own.
pub needed-closed : (n : ℕ) (types : List Term) (S : Term)
    → ((j i : ℕ) → i < n → has_variable (n - (i + 1)) (term_at types j) ≡ true → i < j)
    → (below : ℕ) (found : List ℕ) (j i : ℕ) → below ≤ n → i < below → is_among j (needed_below n types S below found) ≡ true
    → has_variable (n - (i + 1)) (term_at types j) ≡ true → is_among i (needed_below n types S below found) ≡ true
needed-closed n types S before zero found j i le lt h k = absurd (omega arith)
needed-closed n types S before (suc p) found j i le lt h k =
    let test = has_variable (n - (p + 1)) S || is_mentioned n types p found in
    let all = cond test (p ∷ found) found in
    elim (here-or_below i p (omega arith)) [
      | inr lower ↦ needed-closed n types S before p all j i (omega arith) lower h k
      | inl e ↦
          let later : i < j = before j i (omega arith) k in
          elim (needed-cases n types S p all j h) [
            | inr low ↦ absurd (omega arith)
            | inl there ↦ elim (found-cases test j p found there) [
              | inl own ↦ absurd (omega arith)
              | inr known ↦
                  needed-found n types S p all i
                  (transport (λ x. is_among x all ≡ true) (sym e)
                  (found-new test p found
                  (or_right (has_variable (n - (p + 1)) S) (is_mentioned n types p found)
                  (mentioned n types p found j known (transport (λ x. has_variable (n - (x + 1)) (term_at types j) ≡ true) e k)))))
            ]
          ]
    ]
