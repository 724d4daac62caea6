-- In the new order each type has no variables but those that come before its own.
use Rattle.std.proofs.Common.{◌≡◌, ℕ, zero, suc, ◌+◌, ◌-◌, ◌≤◌, ◌<◌, ◌⊎◌, inl, inr, Bool, true, false, cond, List, [], ◌∷◌, ◌++◌, length, refl, sym, subst as transport, arith}
use Rattle.theory.specs.Terms.{Term}
use Rattle.tele_eq.specs.Levels.{has_level, is_among}
use Rattle.tele_eq.specs.Dependences.{has_variable}
use Rattle.tele_eq.specs.Items.{term_at, each_position}
use Rattle.tele_eq.proofs.Growing.{append-none, snoc-append}
use Rattle.unification.specs.Occurrences as levels
use Rattle.unification.proofs.Cases.{either, here-or_below}
use Rattle.unification.proofs.Levels.{among-cases, among-own, among-later, among-left, among-right, among-from, each-among, among-without}
use Rattle.with_abstraction.specs.Orders.{behind_from, behind, in_front, new_order}
use Rattle.with_abstraction.proofs.BehindLevels.{behind-order, type-lacks}

-- each variable of a term over n + 1 variables has its level among these
abbrev pub IsWithin : (n : ℕ) (levels : List ℕ) → Term → Type 0
IsWithin n levels t = (l : ℕ) → l < n + 1 → has_variable (n + 1 - (l + 1)) t ≡ true → is_among l levels ≡ true

-- the types of the variables with the levels `rest`, which come after those that are done, have those before them alone
abbrev pub EachFollows : (n : ℕ) (types : List Term) (done rest : List ℕ) → Type 0
EachFollows n types done [] = Unit {0}
EachFollows n types done (j ∷ rest) = IsWithin n done (term_at types j) × EachFollows n types (done ++ j ∷ []) rest

-- the dependencies of the types of the context, and of that of the new variable
pub record IsOpened (n : ℕ) (types : List Term) (s : Term) : Type 0 where
  pub count : length types ≡ n
  pub before : (j l : ℕ) → j < n → l < n + 1 → has_variable (n + 1 - (l + 1)) (term_at types j) ≡ true → (l < j) ⊎ (l ≡ n)
  pub own : (l : ℕ) → l < n + 1 → has_variable (n + 1 - (l + 1)) s ≡ true → (l < n) × (is_among l (behind n types) ≡ false)

pub term-left : (terms : List Term) (s : Term) (j : ℕ) → j < length terms → term_at (terms ++ s ∷ []) j ≡ term_at terms j
term-left [] s j lt = absurd (omega arith)
term-left (a ∷ terms) s zero lt = refl
term-left (a ∷ terms) s (suc j) lt = term-left terms s j (omega arith)

pub term-last : (terms : List Term) (s : Term) (j : ℕ) → length terms ≡ j → term_at (terms ++ s ∷ []) j ≡ s
term-last [] s zero e = refl
term-last [] s (suc j) e = absurd (omega arith)
term-last (a ∷ terms) s zero e = absurd (omega arith)
term-last (a ∷ terms) s (suc j) e = term-last terms s j (omega arith)

-- a level is after or in front
pub in-front_among : (n : ℕ) (types : List Term) (l : ℕ) → l < n → is_among l (behind n types) ≡ false → is_among l (in_front n types) ≡ true
in-front_among n types l lt h =
    among-without l (behind n types) (each_position (λ j. j) 0 n) (each-among 0 n l (omega arith) (omega arith)) h

-- the variables of a type in front are in front
front-within : (n : ℕ) (types : List Term) (s : Term) → IsOpened n types s → (at : ℕ) → at < n → is_among at (behind n types) ≡ false → (done : List ℕ)
    → ((l : ℕ) → l < at → is_among l (behind n types) ≡ false → is_among l done ≡ true) → IsWithin n done (term_at (types ++ s ∷ []) at)
front-within n types s h at low none done knows l lt has =
    let here : length types ≡ n = h.count in
    let own : has_variable (n + 1 - (l + 1)) (term_at types at) ≡ true =
    transport (λ t. has_variable (n + 1 - (l + 1)) t ≡ true) (term-left types s at (omega arith)) has in
    let absent : is_among (0 + at) (behind n types) ≡ false =
    transport (λ x. is_among x (behind n types) ≡ false) (let e : at ≡ 0 + at = omega arith in e) none in
    elim (h.before at l low lt own) [
      | inr new ↦
          let no : has_variable (n + 1 - (l + 1)) (term_at types at) ≡ false =
          type-lacks n 0 (n ∷ []) types at (omega arith) absent l
          (inl (transport (λ x. is_among x (n ∷ []) ≡ true) (sym new) (among-own n []))) in
          absurd (cc)
      | inl before ↦ elim (either (is_among l (behind n types))) [
        | inr front ↦ knows l before front
        | inl back ↦
            let no : has_variable (n + 1 - (l + 1)) (term_at types at) ≡ false =
            type-lacks n 0 (n ∷ []) types at (omega arith) absent l (inr (omega arith, back)) in
            absurd (cc)
      ]
    ]

pub front-follows : (n : ℕ) (types : List Term) (s : Term) → IsOpened n types s → (at count : ℕ) → at + count ≡ n → (done tail : List ℕ)
    → ((l : ℕ) → l < at → is_among l (behind n types) ≡ false → is_among l done ≡ true)
    → EachFollows n (types ++ s ∷ []) (done ++ levels.without (behind n types) (each_position (λ j. j) at count)) tail
    → EachFollows n (types ++ s ∷ []) done (levels.without (behind n types) (each_position (λ j. j) at count) ++ tail)
front-follows n types s h at zero e done tail knows k =
    transport (λ (levels : List ℕ). EachFollows n (types ++ s ∷ []) levels tail) (append-none done) k
front-follows n types s h at (suc count) e done tail knows k =
    by (λ more. front-follows n types s h (at + 1) count (omega arith) done tail more)
    (λ more. front-follows n types s h (at + 1) count (omega arith) (done ++ at ∷ []) tail more) (is_among at (behind n types)) refl k
  where
    all : List Term
    all = types ++ s ∷ []

    rest : List ℕ
    rest = levels.without (behind n types) (each_position (λ j. j) (at + 1) count)

    by : (((l : ℕ) → l < at + 1 → is_among l (behind n types) ≡ false → is_among l done ≡ true) → EachFollows n all (done ++ rest) tail
        → EachFollows n all done (rest ++ tail))
        → (((l : ℕ) → l < at + 1 → is_among l (behind n types) ≡ false → is_among l (done ++ at ∷ []) ≡ true) → EachFollows n all ((done ++ at ∷ []) ++ rest) tail
        → EachFollows n all (done ++ at ∷ []) (rest ++ tail))
        → (b : Bool) → is_among at (behind n types) ≡ b → EachFollows n all (done ++ cond b rest (at ∷ rest)) tail
        → EachFollows n all done (cond b rest (at ∷ rest) ++ tail)
    by out in_ true is after =
        out
        (λ l lt none. elim (here-or_below l at lt) [
          | inl same ↦
              let no : is_among at (behind n types) ≡ false = transport (λ x. is_among x (behind n types) ≡ false) same none in absurd (cc)
          | inr lower ↦ knows l lower none
        ])
        after
    by out in_ false is after = (
      front-within n types s h at (omega arith) is done knows,
      in_
          (λ l lt none. elim (here-or_below l at lt) [
            | inl same ↦ transport (λ x. is_among x (done ++ at ∷ []) ≡ true) (sym same) (among-right at done (at ∷ []) (among-own at []))
            | inr lower ↦ among-left l done (at ∷ []) (knows l lower none)
          ])
          (transport (λ (levels : List ℕ). EachFollows n all levels tail) (sym (snoc-append done at rest)) after),
    )

not-cons : (l j : ℕ) (levels : List ℕ) → (j ≡ l → ⊥) → is_among l levels ≡ false → is_among l (j ∷ levels) ≡ false
not-cons l j levels ne h = elim (either (is_among l (j ∷ levels))) [
  | inr none ↦ none
  | inl there ↦ elim (among-cases l j levels there) [
    | inl same ↦ absurd (ne same)
    | inr later ↦ absurd (cc)
  ]
]

-- the variables of a type after the new variable come before it too
behind-within : (n : ℕ) (types : List Term) (s : Term) → IsOpened n types s → (j : ℕ) → j < n → (done : List ℕ)
    → ((l : ℕ) → l < j → is_among l done ≡ true) → is_among n done ≡ true → IsWithin n done (term_at (types ++ s ∷ []) j)
behind-within n types s h j low done lower new l lt has =
    let here : length types ≡ n = h.count in
    let own : has_variable (n + 1 - (l + 1)) (term_at types j) ≡ true =
    transport (λ t. has_variable (n + 1 - (l + 1)) t ≡ true) (term-left types s j (omega arith)) has in
    elim (h.before j l low lt own) [
      | inl before ↦ lower l before
      | inr e ↦ transport (λ x. is_among x done ≡ true) (sym e) new
    ]

pub behind-follows : (n : ℕ) (types : List Term) (s : Term) → IsOpened n types s → (j : ℕ) (found : List ℕ) (rest : List Term) → j + length rest ≡ n → (done : List ℕ)
    → ((l : ℕ) → l < j → is_among l done ≡ true) → is_among n done ≡ true
    → ((l : ℕ) → j ≤ l → l < n → is_among l (behind_from n j found rest) ≡ false → is_among l done ≡ true)
    → EachFollows n (types ++ s ∷ []) done (behind_from n j found rest)
behind-follows n types s h j found [] e done lower new others = tt
behind-follows n types s h j found (a ∷ rest) e done lower new others =
    by (behind-follows n types s h (j + 1) (j ∷ found) rest (omega arith) (done ++ j ∷ [])) (behind-follows n types s h (j + 1) found rest (omega arith) done)
    (has_level (n + 1) found a) others
  where
    all : List Term
    all = types ++ s ∷ []

    there : List ℕ
    there = behind_from n (j + 1) (j ∷ found) rest

    without_it : List ℕ
    without_it = behind_from n (j + 1) found rest

    by : (((l : ℕ) → l < j + 1 → is_among l (done ++ j ∷ []) ≡ true) → is_among n (done ++ j ∷ []) ≡ true
        → ((l : ℕ) → j + 1 ≤ l → l < n → is_among l there ≡ false → is_among l (done ++ j ∷ []) ≡ true) → EachFollows n all (done ++ j ∷ []) there)
        → (((l : ℕ) → l < j + 1 → is_among l done ≡ true) → is_among n done ≡ true
        → ((l : ℕ) → j + 1 ≤ l → l < n → is_among l without_it ≡ false → is_among l done ≡ true) → EachFollows n all done without_it)
        → (b : Bool) → ((l : ℕ) → j ≤ l → l < n → is_among l (cond b (j ∷ there) without_it) ≡ false → is_among l done ≡ true)
        → EachFollows n all done (cond b (j ∷ there) without_it)
    by in_ out true known = (
      behind-within n types s h j (omega arith) done lower new,
      in_
          (λ l lt. elim (here-or_below l j lt) [
            | inl same ↦ transport (λ x. is_among x (done ++ j ∷ []) ≡ true) (sym same) (among-right j done (j ∷ []) (among-own j []))
            | inr low ↦ among-left l done (j ∷ []) (lower l low)
          ])
          (among-left n done (j ∷ []) new)
          (λ l le lt none. among-left l done (j ∷ []) (known l (omega arith) lt (not-cons l j there (λ same. omega arith) none))),
    )
    by in_ out false known =
        out
        (λ l lt. elim (here-or_below l j lt) [
          | inl same ↦
              let none : is_among j without_it ≡ false = elim (either (is_among j without_it)) [
                | inr absent ↦ absent
                | inl present ↦
                    let le : j + 1 ≤ j = among-from (j + 1) without_it (behind-order n (j + 1) found rest) j present in
                    absurd (omega arith)
              ] in
              transport (λ x. is_among x done ≡ true) (sym same) (known j (omega arith) (omega arith) none)
          | inr low ↦ lower l low
        ])
        new
        (λ l le lt none. known l (omega arith) lt none)

-- all of them, with the new variable between
pub all-follow : (n : ℕ) (types : List Term) (s : Term) → IsOpened n types s → EachFollows n (types ++ s ∷ []) [] (new_order n types)
all-follow n types s h =
    front-follows n types s h 0 n (omega arith) [] (n ∷ behind n types) (λ l lt. absurd (omega arith)) (
      new-within,
      behind-follows n types s h 0 (n ∷ []) types (let e : length types ≡ n = h.count in omega arith) (in_front n types ++ n ∷ []) (λ l lt. absurd (omega arith))
          (among-right n (in_front n types) (n ∷ []) (among-own n []))
          (λ l le lt none. among-left l (in_front n types) (n ∷ []) (in-front_among n types l lt none)),
    )
  where
    new-within : IsWithin n (in_front n types) (term_at (types ++ s ∷ []) n)
    new-within l lt has =
        let o = h.own l lt (transport (λ t. has_variable (n + 1 - (l + 1)) t ≡ true) (term-last types s n h.count) has) in
        in-front_among n types l o.0 o.1

-- each level of the context is among them, and so is the new one
pub all-among : (n : ℕ) (types : List Term) (l : ℕ) → l < n + 1 → is_among l (new_order n types) ≡ true
all-among n types l lt = elim (here-or_below l n lt) [
  | inl same ↦
      transport (λ x. is_among x (new_order n types) ≡ true) (sym same)
      (among-right n (in_front n types) (n ∷ behind n types) (among-own n (behind n types)))
  | inr low ↦ elim (either (is_among l (behind n types))) [
    | inr front ↦ among-left l (in_front n types) (n ∷ behind n types) (in-front_among n types l low front)
    | inl back ↦ among-right l (in_front n types) (n ∷ behind n types) (among-later l n (behind n types) back)
  ]
]
