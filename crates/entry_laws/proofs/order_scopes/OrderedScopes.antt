-- A telescope is scoped in another order too, where each type comes after all that it mentions: what it mentions has a place before its own.
use Rattle.std.proofs.Common.{◌≡◌, ℕ, zero, suc, ◌+◌, ◌-◌, ◌<◌, ◌≤◌, inl, inr, Bool, true, false, ◌==◌, nat_lt, cond, List, [], ◌∷◌, ◌++◌, length, slice_get, All, refl, sym, ◌∙◌, subst, append_assoc, arith}
use Rattle.std.proofs.lemmas.Bool.{false≢true, and_from}
use Rattle.std.proofs.lemmas.Bool.Decides.{Decides-eqb, Decides-ltb}
use Rattle.std.proofs.lemmas.List.{length-append}
use Rattle.std.proofs.lemmas.List.Elements.{All-nil, All-cons}
use Rattle.theory.specs.Terms.{Term}
use Rattle.theory.specs.Telescopes.{Telescope}
use Rattle.theory.specs.Signatures.{Signature}
use Rattle.theory.specs.SignatureScopes.{IsScoped, IsScopedTelescope}
use Rattle.theory.proofs.ScopedTerms.{var-scoped, sort-scoped, scoped_over_more}
use Rattle.core_terms.specs.Levels.{variable}
use Rattle.tele_eq.specs.Dependences.{has_variable}
use Rattle.tele_eq.specs.Items.{term_at, each_position}
use Rattle.tele_eq.specs.Levels.{is_among, place_in}
use Rattle.tele_eq.proofs.Positions.{length-each_position}
use Rattle.unification.specs.Solving.{reordered, new_context}
use Rattle.unification.proofs.Occurring.{put-all, put-where}
use Rattle.unification.proofs.Levels.{among-cases}
use Rattle.unification.proofs.SolvedContexts.{length-new_context}
use Rattle.tree_translation.specs.structural_rec.Laws.{IsOrder, IsTelescopeOrder}
use Rattle.tree_translation.specs.structural_rec.Positions.{in_type, mentions}
use Rattle.tree_translation.specs.Entries.{ordered_variables}
use Rattle.tree_translation.specs.Recursion.{ordered_telescope, ordered_term}
use Rattle.entry_laws.specs.order_scopes.Laws.{OrderedPlaces, OrderedScoped}
use Rattle.entry_laws.proofs.order_scopes.OrderLengths.{order-counted}

pub type-there : (S : Signature) (n j : ℕ) (tele : Telescope) → IsScopedTelescope S n tele → IsScoped S (n + j) (term_at tele j)
type-there S n j [] h = sort-scoped 0
type-there S n zero (a ∷ tele) h = scoped_over_more S n (n + 0) a (omega arith) h.0
type-there S n (suc j) (a ∷ tele) h = scoped_over_more S (n + 1 + j) (n + suc j) (term_at tele j) (omega arith) (type-there S (n + 1) j tele h.1)

-- ---- places in the order

-- the place of an element in a list, with more behind it too
place-low : (before after : List ℕ) (k : ℕ) → is_among k before ≡ true
    → (place_in before k < length before) × (place_in (before ++ after) k < length before)
place-low [] after k h = absurd (false≢true h)
place-low (x ∷ before) after k h = by (place-low before after k) (x == k) refl
  where
    by : (is_among k before ≡ true → (place_in before k < length before) × (place_in (before ++ after) k < length before)) → (b : Bool) → (x == k) ≡ b
        → (cond b 0 (place_in before k + 1) < suc (length before)) × (cond b 0 (place_in (before ++ after) k + 1) < suc (length before))
    by rest true e = (omega arith, omega arith)
    by rest false e = elim (among-cases k x before h) [
      | inl same ↦ absurd (false≢true (sym e ∙ (Decides-eqb x k).1 same))
      | inr later ↦ let low = (rest later).0 in let near = (rest later).1 in (omega arith, omega arith)
    ]

pub ordered-places : OrderedPlaces
ordered-places tele order is = (
  λ k lt. subst (λ n. place_in order k < n) (order-counted (length tele) order is.positions) (place-low order [] k (is.positions.whole k lt)).0,
  λ before behind i k split m.
      subst (λ xs. place_in xs k < length before) (sym split) (place-low before (i ∷ behind) k (is.earlier before behind i k split m)).1,
)

-- ---- the types

type-in : (tele : Telescope) (p v : ℕ) → has_variable v (term_at tele p) ≡ true → in_type v (slice_get tele p) ≡ true
type-in [] p v h = absurd (false≢true h)
type-in (a ∷ tele) zero v h = h
type-in (a ∷ tele) (suc p) v h = type-in tele p v h

is-mentioned : (tele : Telescope) (j k : ℕ) → k < j → has_variable (j - (k + 1)) (term_at tele j) ≡ true → mentions tele j k ≡ true
is-mentioned tele j k lt h =
    and_from (nat_lt k j) (in_type (j - (k + 1)) (slice_get tele j)) ((Decides-ltb k j).1 lt) (type-in tele j (j - (k + 1)) h)

-- at its place in the order a type is over the types before it: what it mentions has a place there
types-after : (S : Signature) (tele : Telescope) (order before rest : List ℕ) → order ≡ before ++ rest → IsTelescopeOrder tele order
    → IsScopedTelescope S 0 tele → IsScopedTelescope S (length before) (new_context tele (reordered order) (length before) rest)
types-after S tele order before [] split is h = tt
types-after S tele order before (j ∷ rest) split is h = (
  put-where S (reordered order) j (length before) (term_at tele j)
      (λ p lt there d le. let low : place_in order p < length before = (ordered-places tele order is).1 before rest j p split (is-mentioned tele j p lt there) in var-scoped (omega arith))
      (scoped_over_more S (0 + j) j (term_at tele j) (omega arith) (type-there S 0 j tele h)),
  subst (λ n. IsScopedTelescope S n (new_context tele (reordered order) n rest)) (length-append before (j ∷ []))
      (types-after S tele order (before ++ j ∷ []) rest (split ∙ sym (append_assoc before (j ∷ []) rest)) is h),
)

-- ---- a term over all of them

goal-scoped : (S : Signature) (count : ℕ) (order : List ℕ) (goal : Term) → IsScoped S count goal → IsScoped S count (ordered_term count order goal)
goal-scoped S count order goal h = put-all S (reordered order) count count goal (λ p lt d le. var-scoped (omega arith)) h

pub length-ordered : (tele : Telescope) (order : List ℕ) → IsOrder (length tele) order → length (ordered_telescope tele order) ≡ length tele
length-ordered tele order is = length-new_context tele (reordered order) 0 order ∙ order-counted (length tele) order is

pub ordered-scoped : OrderedScoped
ordered-scoped S tele goal order h there is = (
  types-after S tele order [] order refl is h,
  subst (λ n. IsScoped S n (ordered_term (length tele) order goal)) (sym (length-ordered tele order is.positions)) (goal-scoped S (length tele) order goal there),
)

-- ---- the variables

each-variable : (S : Signature) (depth : ℕ) (f : ℕ → ℕ) (j count : ℕ) → 0 < depth → All (IsScoped S depth) (each_position (λ i. variable depth (f i)) j count)
each-variable S depth f j zero some = All-nil (IsScoped S depth)
each-variable S depth f j (suc count) some =
    All-cons (IsScoped S depth) (variable depth (f j)) (each_position (λ i. variable depth (f i)) (j + 1) count) (var-scoped (omega arith))
    (each-variable S depth f (j + 1) count some)

-- the variables in an order, wherever there is one
pub variables-there : (S : Signature) (order : List ℕ) (depth : ℕ) → 0 < depth → All (IsScoped S depth) (ordered_variables order depth)
variables-there S order depth some = each-variable S depth (place_in order) 0 (length order) some

-- the variables in an order that has no more of them than there are
pub variables-scoped : (S : Signature) (order : List ℕ) (depth : ℕ) → length order ≤ depth → All (IsScoped S depth) (ordered_variables order depth)
variables-scoped S [] depth le = All-nil (IsScoped S depth)
variables-scoped S (p ∷ order) depth le = variables-there S (p ∷ order) depth (omega arith)

-- there are as many as positions
pub length-variables : (order : List ℕ) (depth : ℕ) → length (ordered_variables order depth) ≡ length order
length-variables order depth = length-each_position (λ i. variable depth (place_in order i)) 0 (length order)
