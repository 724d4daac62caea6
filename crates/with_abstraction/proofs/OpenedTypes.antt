-- The types of a context without the scrutinee: where they are, and which variables they have.
use Rattle.std.proofs.Common.{◌≡◌, ℕ, zero, suc, ◌+◌, ◌-◌, ◌≤◌, ◌<◌, ◌⊎◌, inl, inr, Bool, true, false, cond, List, [], ◌∷◌, length, ap, ◌∙◌, subst as transport, arith}
use Rattle.theory.specs.Terms.{Term, lift}
use Rattle.tele_eq.specs.Levels.{is_among}
use Rattle.tele_eq.specs.Dependences.{has_variable}
use Rattle.tele_eq.specs.Items.{term_at}
use Rattle.unification.proofs.Cases.{either, here-or_below}
use Rattle.unification.proofs.Levels.{among-cases}
use Rattle.with_abstraction.specs.Abstractions.{opened, opened_types}
use Rattle.with_abstraction.specs.Needed.{widened, needed}
use Rattle.with_abstraction.specs.Occurrences.{without}
use Rattle.with_abstraction.specs.Orders.{behind}
use Rattle.with_abstraction.proofs.BehindLevels.{AreOthers, AreClosed, kept-front}
use Rattle.with_abstraction.proofs.Following.{IsOpened}
use Rattle.with_abstraction.proofs.NeededLevels.{needed-cases, needed-own, needed-closed}
use Rattle.with_abstraction.proofs.Variables.{lifted-has_none, raised-has, without-has}
use Rattle.with_abstraction.proofs.Widths.{length-widened, length-opened}

pub widened-at : (n j : ℕ) (types : List Term) (k : ℕ) → k < length types → term_at (widened n j types) k ≡ lift (term_at types k) (n - (j + k)) 0
widened-at n j [] k lt = absurd (omega arith)
widened-at n j (a ∷ types) zero lt = ap (λ by. lift a by 0) (let e : n - j ≡ n - (j + 0) = omega arith in e)
widened-at n j (a ∷ types) (suc k) lt =
    widened-at n (j + 1) types k (omega arith) ∙ ap (λ by. lift (term_at types k) by 0) (let e : n - (j + 1 + k) ≡ n - (j + suc k) = omega arith in e)

pub opened-at : (t : Term) (kept : List ℕ) (j : ℕ) (types : List Term) (k : ℕ) → k < length types
    → term_at (opened t kept j types) k ≡ cond (is_among (j + k) kept) (lift (term_at types k) 1 0) (without t (term_at types k))
opened-at t kept j [] k lt = absurd (omega arith)
opened-at t kept j (a ∷ types) zero lt =
    ap (λ x. cond (is_among x kept) (lift a 1 0) (without t a)) (let e : j ≡ j + 0 = omega arith in e)
opened-at t kept j (a ∷ types) (suc k) lt =
    opened-at t kept (j + 1) types k (omega arith)
    ∙ ap (λ x. cond (is_among x kept) (lift (term_at types k) 1 0) (without t (term_at types k))) (let e : j + 1 + k ≡ j + suc k = omega arith in e)

-- the type at a place, in the words of its own context
pub opened-type : (n : ℕ) (t S : Term) (types : List Term) (k : ℕ) → length types ≡ n → k < n
    → term_at (opened_types n t S (widened n 0 types)) k
    ≡ cond (is_among k (needed n (widened n 0 types) S)) (lift (lift (term_at types k) (n - k) 0) 1 0) (without t (lift (term_at types k) (n - k) 0))
opened-type n t S types k e lt =
    let same : length (widened n 0 types) ≡ length types = length-widened n 0 types in
    let w : term_at (widened n 0 types) k ≡ lift (term_at types k) (n - k) 0 =
    widened-at n 0 types k (omega arith) ∙ ap (λ by. lift (term_at types k) by 0) (let f : n - (0 + k) ≡ n - k = omega arith in f) in
    opened-at t (needed n (widened n 0 types) S) 0 (widened n 0 types) k (omega arith)
    ∙ ap (λ x. cond (is_among x (needed n (widened n 0 types) S)) (lift (term_at (widened n 0 types) k) 1 0) (without t (term_at (widened n 0 types) k)))
    (let f : 0 + k ≡ k = omega arith in f)
    ∙ ap (λ u. cond (is_among k (needed n (widened n 0 types) S)) (lift u 1 0) (without t u)) w

pub opened-count : (n : ℕ) (t S : Term) (types : List Term) → length types ≡ n → length (opened_types n t S (widened n 0 types)) ≡ n
opened-count n t S types e = length-opened t (needed n (widened n 0 types) S) 0 (widened n 0 types) ∙ length-widened n 0 types ∙ e

-- a widened type has variables before its own alone
widened-before : (n j : ℕ) (types : List Term) (k i : ℕ) → i < n → has_variable (n - (i + 1)) (term_at (widened n j types) k) ≡ true → i < j + k
widened-before n j [] k i lt h = absurd (cc)
widened-before n j (a ∷ types) zero i lt h = let le : n - j ≤ n - (i + 1) = lifted-has_none a (n - (i + 1)) (n - j) h in omega arith
widened-before n j (a ∷ types) (suc k) i lt h = let low : i < j + 1 + k = widened-before n (j + 1) types k i lt h in omega arith

shifted : (n l : ℕ) (t : Term) → l < n → has_variable (n + 1 - (l + 1)) t ≡ true → has_variable (suc (n - (l + 1)) + 0) t ≡ true
shifted n l t lt h = transport (λ v. has_variable v t ≡ true) (let e : n + 1 - (l + 1) ≡ suc (n - (l + 1)) + 0 = omega arith in e) h

unshifted : (n l : ℕ) (t : Term) → has_variable (n - (l + 1) + 0) t ≡ true → has_variable (n - (l + 1)) t ≡ true
unshifted n l t h = transport (λ v. has_variable v t ≡ true) (let e : n - (l + 1) + 0 ≡ n - (l + 1) = omega arith in e) h

-- one variable further in a term has the others that it had before
raised-level : (n l : ℕ) (t : Term) → l < n → has_variable (n + 1 - (l + 1)) (lift t 1 0) ≡ true → has_variable (n - (l + 1)) t ≡ true
raised-level n l t lt h = unshifted n l t (raised-has t (n - (l + 1)) 0 (shifted n l (lift t 1 0) lt h))

without-level : (n l : ℕ) (t u : Term) → l < n → has_variable (n + 1 - (l + 1)) (without t u) ≡ true → has_variable (n - (l + 1)) u ≡ true
without-level n l t u lt h = unshifted n l u (without-has t u (n - (l + 1)) 0 (shifted n l (without t u) lt h))

not-new : (P : Type 0) (n l : ℕ) (t : Term) → l ≡ n → has_variable (n + 1 - (l + 1)) (lift t 1 0) ≡ true → P
not-new P n l t e h = let le : 1 ≤ n + 1 - (l + 1) = lifted-has_none t (n + 1 - (l + 1)) 1 h in absurd (omega arith)

either-level : (n l : ℕ) (b : Bool) (t u : Term) → l < n → has_variable (n + 1 - (l + 1)) (cond b (lift u 1 0) (without t u)) ≡ true
    → has_variable (n - (l + 1)) u ≡ true
either-level n l true t u lt h = raised-level n l u lt h
either-level n l false t u lt h = without-level n l t u lt h

kept-lifted : (n i : ℕ) (b : Bool) (t u : Term) → b ≡ true → has_variable (n + 1 - (i + 1)) (cond b (lift u 1 0) (without t u)) ≡ true
    → has_variable (n + 1 - (i + 1)) (lift u 1 0) ≡ true
kept-lifted n i true t u e h = h
kept-lifted n i false t u e h = absurd (cc)

-- the variables that the scrutinee's type needs are variables of the context
pub needed-low : (n : ℕ) (types : List Term) (S : Term) (i : ℕ) → is_among i (needed n types S) ≡ true → i < n
needed-low n types S i h = elim (needed-cases n types S n [] i h) [
  | inl none ↦ absurd (cc)
  | inr lt ↦ lt
]

-- and none of them comes after the new variable
pub needed-front : (n : ℕ) (t S : Term) (types : List Term) → length types ≡ n → (l : ℕ)
    → is_among l (needed n (widened n 0 types) S) ≡ true → is_among l (behind n (opened_types n t S (widened n 0 types))) ≡ false
needed-front n t S types e l h = elim (either (is_among l (behind n (opened_types n t S (widened n 0 types))))) [
  | inr none ↦ none
  | inl there ↦
      let no : is_among l kept ≡ false =
      kept-front n kept 0 (n ∷ []) (opened_types n t S wide) (let c : length (opened_types n t S wide) ≡ n = opened-count n t S types e in omega arith)
      others closed l there in
      absurd (cc)
]
  where
    wide : List Term
    wide = widened n 0 types

    kept : List ℕ
    kept = needed n wide S

    others : AreOthers n kept (n ∷ [])
    others i h = elim (among-cases i n [] h) [
      | inr none ↦ absurd (cc)
      | inl same ↦ (
        omega arith,
        elim (either (is_among i kept)) [
          | inr absent ↦ absent
          | inl present ↦ let lt : i < n = needed-low n wide S i present in absurd (omega arith)
        ],
      )
    ]

    before : (j i : ℕ) → i < n → has_variable (n - (i + 1)) (term_at wide j) ≡ true → i < j
    before j i lt has = let low : i < 0 + j = widened-before n 0 types j i lt has in omega arith

    closed : AreClosed n kept 0 (opened_types n t S wide)
    closed k lt here i low has =
        let c : length (opened_types n t S wide) ≡ n = opened-count n t S types e in
        let w : length wide ≡ length types = length-widened n 0 types in
        let own : is_among k kept ≡ true = transport (λ x. is_among x kept ≡ true) (let f : 0 + k ≡ k = omega arith in f) here in
        let there : has_variable (n + 1 - (i + 1)) (lift (term_at wide k) 1 0) ≡ true =
        kept-lifted n i (is_among (0 + k) kept) t (term_at wide k) here
        (transport (λ u. has_variable (n + 1 - (i + 1)) u ≡ true) (opened-at t kept 0 wide k (omega arith)) has) in
        elim (here-or_below i n low) [
          | inl new ↦ not-new (is_among i kept ≡ true) n i (term_at wide k) new there
          | inr lower ↦
              needed-closed n wide S before n [] k i (omega arith) lower own (raised-level n i (term_at wide k) lower there)
        ]

-- the types of the context and of the new variable have these dependencies
pub is-opened : (n : ℕ) (t S : Term) (types : List Term) → length types ≡ n → IsOpened n (opened_types n t S (widened n 0 types)) (lift S 1 0)
is-opened n t S types e = record { count = opened-count n t S types e; before = before; own = own }
  where
    wide : List Term
    wide = widened n 0 types

    kept : List ℕ
    kept = needed n wide S

    before : (j l : ℕ) → j < n → l < n + 1 → has_variable (n + 1 - (l + 1)) (term_at (opened_types n t S wide) j) ≡ true → (l < j) ⊎ (l ≡ n)
    before j l low lt has = elim (here-or_below l n lt) [
      | inl new ↦ inr new
      | inr lower ↦
          let w : length wide ≡ length types = length-widened n 0 types in
          let there : has_variable (n - (l + 1)) (term_at wide j) ≡ true =
          either-level n l (is_among (0 + j) kept) t (term_at wide j) lower
          (transport (λ u. has_variable (n + 1 - (l + 1)) u ≡ true) (opened-at t kept 0 wide j (omega arith)) has) in
          let first : l < 0 + j = widened-before n 0 types j l lower there in
          inl (omega arith)
    ]

    own : (l : ℕ) → l < n + 1 → has_variable (n + 1 - (l + 1)) (lift S 1 0) ≡ true → (l < n) × (is_among l (behind n (opened_types n t S wide)) ≡ false)
    own l lt has = elim (here-or_below l n lt) [
      | inl new ↦ not-new ((l < n) × (is_among l (behind n (opened_types n t S wide)) ≡ false)) n l S new has
      | inr lower ↦
          (lower, needed-front n t S types e l (needed-own n wide S n [] l lower (raised-level n l S lower has)))
    ]
