-- The context after a solution: the other variables occur in it once each, and each type is over the variables before it.
use Rattle.std.proofs.Common.{◌≡◌, ℕ, zero, suc, ◌+◌, ◌-◌, ◌<◌, ◌≤◌, ◌⊎◌, inl, inr, Bool, true, false, cond, List, [], ◌∷◌, ◌++◌, length, drop, refl, ap, sym, get_or-drop, length-drop, length-append, drop_of_length-le, subst, ◌∙◌, arith}
use Rattle.std.proofs.lemmas.Bool.{not-true}
use Rattle.theory.specs.Terms.{Term}
use Rattle.theory.specs.Terms.Term.{Sort}
use Rattle.theory.specs.Telescopes.{Telescope}
use Rattle.theory.specs.Signatures.{Signature}
use Rattle.theory.specs.SignatureScopes.{IsScoped, IsScopedTelescope}
use Rattle.theory.proofs.ScopedTerms.{var-scoped, sort-scoped, scoped_over_more}
use Rattle.tele_eq.specs.Levels.{has_level, place_in, is_among}
use Rattle.tele_eq.specs.Dependences.{has_variable}
use Rattle.tele_eq.specs.Environments.{put, Environment}
use Rattle.tele_eq.specs.Items.{term_at, each_position}
use Rattle.tele_eq.proofs.Carrying.{where-same, where-other}
use Rattle.tele_eq.proofs.Growing.{snoc-append}
use Rattle.unification.specs.Laws.{SolvedContext}
use Rattle.unification.specs.Occurrences.{dependants_from, dependants, lacks, without, order_without}
use Rattle.unification.specs.Solving.{reordered, solved, new_context}
use Rattle.unification.proofs.Cases.{either, here-or_below}
use Rattle.unification.proofs.Dependants.{dependants-order, dependants-below, none-occurs, type-lacks}
use Rattle.unification.proofs.Levels.{among-cases, among-own, among-left, among-right, not-among-head, not-among-tail, among-from, place-there, place-before, each-among, among-without, length-without}
use Rattle.unification.proofs.Occurring.{put-where}

-- variable p and its dependants
abbrev pub left_out : Telescope → (p : ℕ) → List ℕ
left_out context p = p ∷ dependants context p

-- ---- which levels are among the others

out-from : (context : Telescope) (p i : ℕ) → is_among i (left_out context p) ≡ true → p ≤ i
out-from context p i h =
    among-from p (left_out context p) (omega arith, dependants-order (p + 1) (p ∷ []) (drop (p + 1) context)) i h

-- dependants are levels of the context
pub dependants-within : (context : Telescope) (p i : ℕ) → p < length context → is_among i (dependants context p) ≡ true → i < length context
dependants-within context p i lt h =
    let low : i < p + 1 + length (drop (p + 1) context) = dependants-below (p + 1) (p ∷ []) (drop (p + 1) context) i h in
    omega (arith, length-drop (p + 1) context)

pub other-among : (context : Telescope) (p j : ℕ) → j < length context → (j ≡ p → ⊥) → is_among j (order_without context p) ≡ true
other-among context p j lt ne = elim (either (is_among j (left_out context p))) [
  | inl out ↦ elim (among-cases j p (dependants context p) out) [
    | inl same ↦ absurd (ne (sym same))
    | inr there ↦ among-right j (without (left_out context p) (each_position (λ j. j) 0 (length context))) (dependants context p) there
  ]
  | inr stays ↦
      among-left j (without (left_out context p) (each_position (λ j. j) 0 (length context))) (dependants context p)
      (among-without j (left_out context p) (each_position (λ j. j) 0 (length context))
      (each-among 0 (length context) j (omega arith) (omega arith)) stays)
]

pub length-order : (context : Telescope) (p : ℕ) → p < length context → length (order_without context p) + 1 ≡ length context
length-order context p lt =
    let kept = without (left_out context p) (each_position (λ j. j) 0 (length context)) in
    let counted : length kept + length (left_out context p) ≡ length context =
    length-without (left_out context p) 0 (length context) (omega arith, dependants-order (p + 1) (p ∷ []) (drop (p + 1) context)) below in
    omega (arith, length-append kept (dependants context p))
  where
    below : (j : ℕ) → is_among j (left_out context p) ≡ true → j < 0 + length context
    below j h = elim (among-cases j p (dependants context p) h) [
      | inl same ↦ omega arith
      | inr there ↦ let low : j < length context = dependants-within context p j lt there in omega arith
    ]

-- with no variable there is none left
pub length-order_of_none : (context : Telescope) (p : ℕ) → length context ≡ 0 → length (order_without context p) ≡ 0
length-order_of_none [] p e = ap (λ types. length (dependants_from (p + 1) (p ∷ []) types)) (drop_of_length-le [] (omega arith))
length-order_of_none (a ∷ context) p e = absurd (omega arith)

-- ---- terms for the variables

-- each variable that occurs in a term of the context has its level among these
abbrev pub IsOver : (n : ℕ) (levels : List ℕ) → Term → Type 0
IsOver n levels t = (l : ℕ) → l < n → has_variable (n - (l + 1)) t ≡ true → is_among l levels ≡ true

-- a level is among them, or it is that of the variable which such a term solves
abbrev pub Stands : (n p : ℕ) (u : Term) (levels : List ℕ) (i : ℕ) → Type 0
Stands n p u levels i = ((i ≡ p → ⊥) × (is_among i levels ≡ true)) ⊎ ((i ≡ p) × IsOver n levels u)

place-within : (order done rest : List ℕ) (i : ℕ) → order ≡ done ++ rest → is_among i done ≡ true → place_in order i < length done
place-within order done rest i e h = subst (λ levels. place_in levels i < length done) (sym e) (place-before done rest i h)

reordered-scoped : (S : Signature) (order done rest : List ℕ) (i d : ℕ) → order ≡ done ++ rest → is_among i done ≡ true → length done ≤ d
    → IsScoped S d (reordered order d i)
reordered-scoped S order done rest i d e h le =
    let low : place_in order i < length done = place-within order done rest i e h in var-scoped (omega arith)

-- a term of the context over levels that come before a depth
pub reordered-term : (S : Signature) (n : ℕ) (order done rest : List ℕ) (t : Term) (d : ℕ) → order ≡ done ++ rest → IsScoped S n t → IsOver n done t
    → length done ≤ d → IsScoped S d (put (reordered order) n d t)
reordered-term S n order done rest t d e h over le =
    put-where S (reordered order) n d t
    (λ l lt occurs d' deep. reordered-scoped S order done rest l d' e (over l lt occurs) (omega arith)) h

pub solved-scoped : (S : Signature) (n p : ℕ) (u : Term) (order done rest : List ℕ) (i d : ℕ) → order ≡ done ++ rest → IsScoped S n u
    → Stands n p u done i → length done ≤ d → IsScoped S d (solved n order p u d i)
solved-scoped S n p u order done rest i d e h (inl other) le =
    subst (IsScoped S d) (sym (where-other i p (put (reordered order) n d u) (reordered order d i) other.0))
    (reordered-scoped S order done rest i d e other.1 le)
solved-scoped S n p u order done rest i d e h (inr own) le =
    subst (IsScoped S d) (sym (where-same i p (put (reordered order) n d u) (reordered order d i) own.0))
    (reordered-term S n order done rest u d e h own.1 le)

-- ---- the types

-- each type is over the variables before it
abbrev pub AreOver : (n p : ℕ) (u : Term) (context : Telescope) (done rest : List ℕ) → Type 0
AreOver n p u context done [] = Unit {0}
AreOver n p u context done (j ∷ rest) =
    ((i : ℕ) → i < j → has_variable (j - (i + 1)) (term_at context j) ≡ true → Stands n p u done i)
    × AreOver n p u context (done ++ j ∷ []) rest

term_at-scoped : (S : Signature) (n : ℕ) (context : Telescope) (j : ℕ) → IsScopedTelescope S n context → IsScoped S (n + j) (term_at context j)
term_at-scoped S n [] j h = sort-scoped 0
term_at-scoped S n (a ∷ context) zero h = scoped_over_more S n (n + 0) a (omega arith) h.0
term_at-scoped S n (a ∷ context) (suc j) h =
    scoped_over_more S (n + 1 + j) (n + suc j) (term_at context j) (omega arith) (term_at-scoped S (n + 1) context j h.1)

types-scoped : (S : Signature) (n p : ℕ) (u : Term) (context : Telescope) (order : List ℕ) → IsScopedTelescope S 0 context → IsScoped S n u
    → (done rest : List ℕ) (depth : ℕ) → order ≡ done ++ rest → depth ≡ length done → AreOver n p u context done rest
    → IsScopedTelescope S depth (new_context context (solved n order p u) depth rest)
types-scoped S n p u context order scoped h done [] depth e d over = tt
types-scoped S n p u context order scoped h done (j ∷ rest) depth e d over = (
  put-where S (solved n order p u) j depth (term_at context j)
      (λ i lt occurs d' deep. solved-scoped S n p u order done (j ∷ rest) i d' e h (over.0 i lt occurs) (omega arith))
      (scoped_over_more S (0 + j) j (term_at context j) (omega arith) (term_at-scoped S 0 context j scoped)),
  types-scoped S n p u context order scoped h (done ++ j ∷ []) rest (depth + 1) (e ∙ sym (snoc-append done j rest))
      (omega (arith, length-append done (j ∷ []))) over.1,
)

-- there is a type for each level
pub length-new_context : (context : Telescope) (s : Environment) (depth : ℕ) (levels : List ℕ) → length (new_context context s depth levels) ≡ length levels
length-new_context context s depth [] = refl
length-new_context context s depth (j ∷ levels) = ap suc (length-new_context context s (depth + 1) levels)

-- a level that is not left out is among the others at the beginning; a dependant is over these and the dependants before it

snoc-among : (i j : ℕ) (done : List ℕ) → (i ≡ j) ⊎ (is_among i done ≡ true) → is_among i (done ++ j ∷ []) ≡ true
snoc-among i j done (inl e) = among-right i done (j ∷ []) (subst (λ x. is_among x (j ∷ []) ≡ true) (sym e) (among-own j []))
snoc-among i j done (inr h) = among-left i done (j ∷ []) h

-- a term without the levels that are left out
pub over-others : (context : Telescope) (p : ℕ) (t : Term) (levels : List ℕ) → lacks context p t ≡ true
    → ((i : ℕ) → i < length context → is_among i (left_out context p) ≡ false → is_among i levels ≡ true) → IsOver (length context) levels t
over-others context p t levels without_them others l lt occurs = elim (either (is_among l (left_out context p))) [
  | inl out ↦
      let none : has_variable (length context - (l + 1)) t ≡ false = none-occurs (length context) (left_out context p) t (not-true (has_level (length context) (left_out context p) t) without_them) l out in
      absurd (cc)
  | inr stays ↦ others l lt stays
]

-- the dependants from `at` on, where the earlier ones are among those that are done
dependants-over : (context : Telescope) (p : ℕ) (u : Term) → p < length context → lacks context p u ≡ true
    → (at : ℕ) (found : List ℕ) (types : Telescope) (done : List ℕ) → at + length types ≡ length context
    → ((i : ℕ) → i < length context → is_among i (left_out context p) ≡ false → is_among i done ≡ true)
    → ((i : ℕ) → is_among i (dependants context p) ≡ true → (is_among i done ≡ true) ⊎ (is_among i (dependants_from at found types) ≡ true))
    → AreOver (length context) p u context done (dependants_from at found types)
dependants-over context p u lt free at found [] done e others known = tt
dependants-over context p u lt free at found (a ∷ types) done e others known =
    by (dependants-over context p u lt free (at + 1) (at ∷ found) types (done ++ at ∷ []) (omega arith))
    (dependants-over context p u lt free (at + 1) found types done (omega arith)) (has_level at found a) known
  where
    by : (((i : ℕ) → i < length context → is_among i (left_out context p) ≡ false → is_among i (done ++ at ∷ []) ≡ true)
        → ((i : ℕ) → is_among i (dependants context p) ≡ true → (is_among i (done ++ at ∷ []) ≡ true) ⊎ (is_among i (dependants_from (at + 1) (at ∷ found) types) ≡ true))
        → AreOver (length context) p u context (done ++ at ∷ []) (dependants_from (at + 1) (at ∷ found) types))
        → (((i : ℕ) → i < length context → is_among i (left_out context p) ≡ false → is_among i done ≡ true)
        → ((i : ℕ) → is_among i (dependants context p) ≡ true → (is_among i done ≡ true) ⊎ (is_among i (dependants_from (at + 1) found types) ≡ true))
        → AreOver (length context) p u context done (dependants_from (at + 1) found types))
        → (b : Bool)
        → ((i : ℕ) → is_among i (dependants context p) ≡ true
        → (is_among i done ≡ true) ⊎ (is_among i (cond b (at ∷ dependants_from (at + 1) (at ∷ found) types) (dependants_from (at + 1) found types)) ≡ true))
        → AreOver (length context) p u context done (cond b (at ∷ dependants_from (at + 1) (at ∷ found) types) (dependants_from (at + 1) found types))
    by one other false is = other others is
    by one other true is = (own, one further known-further)
      where
        own : (i : ℕ) → i < at → has_variable (at - (i + 1)) (term_at context at) ≡ true → Stands (length context) p u done i
        own i low occurs = elim (either (is_among i (left_out context p))) [
          | inl out ↦ elim (among-cases i p (dependants context p) out) [
            | inl same ↦ inr (sym same, over-others context p u done free others)
            | inr there ↦ elim (is i there) [
              | inl before ↦
                  inl (
                    λ same. (let le : p + 1 ≤ i = among-from (p + 1) (dependants context p) (dependants-order (p + 1) (p ∷ []) (drop (p + 1) context)) i there in omega arith),
                    before,
                  )
              | inr behind ↦
                  let le : at ≤ i =
                  among-from at (at ∷ dependants_from (at + 1) (at ∷ found) types)
                  (omega arith, dependants-order (at + 1) (at ∷ found) types) i behind in
                  absurd (omega arith)
            ]
          ]
          | inr stays ↦ inl (λ same. not-among-head i p (dependants context p) stays (sym same), others i (omega arith) stays)
        ]

        further : (i : ℕ) → i < length context → is_among i (left_out context p) ≡ false → is_among i (done ++ at ∷ []) ≡ true
        further i low stays = snoc-among i at done (inr (others i low stays))

        known-further : (i : ℕ) → is_among i (dependants context p) ≡ true
            → (is_among i (done ++ at ∷ []) ≡ true) ⊎ (is_among i (dependants_from (at + 1) (at ∷ found) types) ≡ true)
        known-further i there = elim (is i there) [
          | inl before ↦ inl (snoc-among i at done (inr before))
          | inr behind ↦ elim (among-cases i at (dependants_from (at + 1) (at ∷ found) types) behind) [
            | inl same ↦ inl (snoc-among i at done (inl (sym same)))
            | inr later ↦ inr later
          ]
        ]

-- the type of a variable that is not left out mentions none that is
other-lacks : (context : Telescope) (p at : ℕ) → at < length context → is_among at (left_out context p) ≡ false → (i : ℕ) → i < at
    → is_among i (left_out context p) ≡ true → has_variable (at - (i + 1)) (term_at context at) ≡ false
other-lacks context p at lt stays i low out =
    let le : p ≤ i = out-from context p i out in
    let k = at - (p + 1) in
    let same : at ≡ p + 1 + k = omega arith in
    let none : has_variable (p + 1 + k - (i + 1)) (term_at (drop (p + 1) context) k) ≡ false =
    type-lacks (p + 1) (p ∷ []) (drop (p + 1) context) k (omega (arith, length-drop (p + 1) context))
    (subst (λ x. is_among x (dependants context p) ≡ false) same (not-among-tail at p (dependants context p) stays)) i (omega arith) known in
    subst (λ x. has_variable (x - (i + 1)) (term_at context x) ≡ false) (sym same)
    (subst (λ t. has_variable (p + 1 + k - (i + 1)) t ≡ false) (get_or-drop (p + 1) context k (Sort 0)) none)
  where
    known : (is_among i (p ∷ []) ≡ true) ⊎ (is_among i (dependants context p) ≡ true)
    known = elim (among-cases i p (dependants context p) out) [
      | inl same ↦ inl (subst (λ x. is_among x (p ∷ []) ≡ true) same (among-own p []))
      | inr there ↦ inr there
    ]

-- the types of the other variables come first, in their order
others-over : (context : Telescope) (p : ℕ) (u : Term) → p < length context → lacks context p u ≡ true
    → (at count : ℕ) (done : List ℕ) → at + count ≡ length context
    → ((i : ℕ) → i < at → is_among i (left_out context p) ≡ false → is_among i done ≡ true)
    → AreOver (length context) p u context done (without (left_out context p) (each_position (λ j. j) at count) ++ dependants context p)
others-over context p u lt free at zero done e others =
    dependants-over context p u lt free (p + 1) (p ∷ []) (drop (p + 1) context) done (omega (arith, length-drop (p + 1) context))
    (λ i low stays. others i (omega arith) stays) (λ i there. inr there)
others-over context p u lt free at (suc count) done e others =
    by (others-over context p u lt free (at + 1) count (done ++ at ∷ []) (omega arith)) (others-over context p u lt free (at + 1) count done (omega arith))
    (is_among at (left_out context p)) refl
  where
    rest : List ℕ
    rest = without (left_out context p) (each_position (λ j. j) (at + 1) count)

    next : (levels : List ℕ) → (is_among at (left_out context p) ≡ false → is_among at levels ≡ true)
        → ((i : ℕ) → i < at → is_among i (left_out context p) ≡ false → is_among i levels ≡ true)
        → (i : ℕ) → i < at + 1 → is_among i (left_out context p) ≡ false → is_among i levels ≡ true
    next levels own before i low stays = elim (here-or_below i at low) [
      | inl same ↦
          subst (λ x. is_among x levels ≡ true) (sym same) (own (subst (λ x. is_among x (left_out context p) ≡ false) same stays))
      | inr less ↦ before i less stays
    ]

    by : (((i : ℕ) → i < at + 1 → is_among i (left_out context p) ≡ false → is_among i (done ++ at ∷ []) ≡ true)
        → AreOver (length context) p u context (done ++ at ∷ []) (without (left_out context p) (each_position (λ j. j) (at + 1) count) ++ dependants context p))
        → (((i : ℕ) → i < at + 1 → is_among i (left_out context p) ≡ false → is_among i done ≡ true)
        → AreOver (length context) p u context done (without (left_out context p) (each_position (λ j. j) (at + 1) count) ++ dependants context p))
        → (b : Bool) → is_among at (left_out context p) ≡ b
        → AreOver (length context) p u context done
        (cond b (without (left_out context p) (each_position (λ j. j) (at + 1) count)) (at ∷ without (left_out context p) (each_position (λ j. j) (at + 1) count))
        ++ dependants context p)
    by one other true out = other (next done (λ stays. absurd (cc)) others)
    by one other false stays = (
      own,
      one (next (done ++ at ∷ []) (λ none. snoc-among at at done (inl refl)) (λ i low none. snoc-among i at done (inr (others i low none)))),
    )
      where
        own : (i : ℕ) → i < at → has_variable (at - (i + 1)) (term_at context at) ≡ true → Stands (length context) p u done i
        own i low occurs = elim (either (is_among i (left_out context p))) [
          | inl out ↦ let none = other-lacks context p at (omega arith) stays i low out in absurd (cc)
          | inr others_too ↦
              inl (λ same. not-among-head i p (dependants context p) others_too (sym same), others i low others_too)
        ]

pub order-over : (context : Telescope) (p : ℕ) (u : Term) → p < length context → lacks context p u ≡ true
    → AreOver (length context) p u context [] (order_without context p)
order-over context p u lt free = others-over context p u lt free 0 (length context) [] (omega arith) (λ i low stays. absurd (omega arith))

-- ---- the law

pub solved_context-scoped : (S : Signature) (context : Telescope) (p : ℕ) (u : Term) → IsScopedTelescope S 0 context → p < length context
    → IsScoped S (length context) u → lacks context p u ≡ true
    → IsScopedTelescope S 0 (new_context context (solved (length context) (order_without context p) p u) 0 (order_without context p))
solved_context-scoped S context p u scoped lt h free =
    types-scoped S (length context) p u context (order_without context p) scoped h [] (order_without context p) 0 refl refl
    (order-over context p u lt free)

pub solved-context : SolvedContext
solved-context S s i p A u scoped lt h free =
    let order = order_without s.context p in
    let counted : length (new_context s.context (solved (length s.context) order p u) 0 order) ≡ length order =
    length-new_context s.context (solved (length s.context) order p u) 0 order in
    record {
      shorter = ap (λ k. k + 1) counted ∙ length-order s.context p lt;
      each = λ j low other.
          (let there = place-there order j (other-among s.context p j low other) in
          let at : place_in order j < length order = there.0 in
          (omega arith, there.1));
      scoped = solved_context-scoped S s.context p u scoped.context lt h free;
    }
