-- The columns of a helper at the arguments of its call: the terms of the outer clause, and then the scrutinee.
use Rattle.std.proofs.Common.{◌≡◌, ℕ, zero, suc, ◌+◌, ◌-◌, ◌≤◌, ◌<◌, Bool, true, false, cond, nat_lt, Some, List, [], ◌∷◌, ◌++◌, length, map, take, drop, get_or, slice_get, refl, ap, ap₂, ◌∙◌, arith}
use Rattle.std.specs.List.{All}
use Rattle.std.proofs.lemmas.Bool.Decides.{nat_tests}
use Rattle.std.proofs.lemmas.List.{length-map, map-append}
use Rattle.std.proofs.lemmas.List.Elements.{All-head, All-tail}
use Rattle.theory.specs.Terms.{Term, Sort, Var}
use Rattle.theory.specs.Substitutions.{inst, fill}
use Rattle.theory.specs.Telescopes.{variables}
use Rattle.theory.specs.Eliminators.{no_variable}
use Rattle.theory.specs.Signatures.{Signature}
use Rattle.theory.specs.SignatureScopes.{IsScoped}
use Rattle.theory.proofs.Instances.{inst-inst}
use Rattle.theory.proofs.Instantiation.{inst-scoped}
use Rattle.tele_eq.specs.Levels.{place_in}
use Rattle.case_trees.specs.Points.{under_solution}
use Rattle.clause_reports.specs.elaboration.Walking.{helper_arguments, helper_terms, variable_in}
use Rattle.unification.proofs.Levels.{place-there}
use Rattle.with_abstraction.specs.Abstractions.{Abstracted}
use Rattle.with_abstraction.specs.Laws.{IsScopedAbstraction}
use Rattle.with_abstraction.proofs.PutBack.{fill-place}
use Rattle.function_session.proofs.plan_laws.PlannedClauses.{arguments-long}

-- ---- places in a list

get-mapped : (g : Term → Term) (ts : List Term) (i : ℕ) → i < length ts → get_or (map g ts) i (Sort 0) ≡ g (get_or ts i (Sort 0))
get-mapped g [] i less = absurd (omega arith)
get-mapped g (t ∷ ts) zero less = refl
get-mapped g (t ∷ ts) (suc i) less = get-mapped g ts i (omega arith)

-- before the place of the scrutinee, at it and after it
get-before : (order : List ℕ) (p i v : ℕ) (rest : List Term) → i < p → slice_get order i ≡ Some v → get_or (map Var (take p order) ++ rest) i (Sort 0) ≡ Var v
get-before order zero i v rest less at = absurd (omega (arith, less))
get-before [] (suc p) i v rest less at = absurd (cc)
get-before (x ∷ order) (suc p) zero v rest less at = let same : x ≡ v = cc in ap Var same
get-before (x ∷ order) (suc p) (suc i) v rest less at = get-before order p i v rest (omega (arith, less)) at

get-at : (order : List ℕ) (p : ℕ) (t : Term) (rest : List Term) → p ≤ length order → get_or (map Var (take p order) ++ t ∷ rest) p (Sort 0) ≡ t
get-at order zero t rest le = refl
get-at [] (suc p) t rest le = absurd (omega (arith, le))
get-at (x ∷ order) (suc p) t rest le = get-at order p t rest (omega (arith, le))

get-mapped-there : (order : List ℕ) (i v : ℕ) → slice_get order i ≡ Some v → get_or (map Var order) i (Sort 0) ≡ Var v
get-mapped-there [] i v at = absurd (cc)
get-mapped-there (x ∷ order) zero v at = let same : x ≡ v = cc in ap Var same
get-mapped-there (x ∷ order) (suc i) v at = get-mapped-there order i v at

get-after : (order : List ℕ) (p i v : ℕ) (t : Term) → p ≤ i → slice_get order i ≡ Some v
    → get_or (map Var (take p order) ++ t ∷ map Var (drop p order)) (suc i) (Sort 0) ≡ Var v
get-after order zero i v t le at = get-mapped-there order i v at
get-after [] (suc p) i v t le at = absurd (cc)
get-after (x ∷ order) (suc p) zero v t le at = absurd (omega (arith, le))
get-after (x ∷ order) (suc p) (suc i) v t le at = get-after order p i v t (omega (arith, le)) at

-- ---- the arguments

-- the argument at a place, counted from the first on, is the term for the variable there
at-place : (us : List Term) (n q : ℕ) → length us ≡ n + 1 → q < n + 1 → fill no_variable us (n - q) ≡ get_or us q (Sort 0)
at-place us n q long less =
    ap (fill no_variable us) (let e : n - q ≡ length us - (q + 1) = omega (arith, long) in e) ∙ fill-place no_variable us q (omega (arith, long, less))

module _ (S : Signature) (n : ℕ) (a : Abstracted) (h : IsScopedAbstraction S n a) (t : Term) (g : Term → Term) where
  long : length (map g (helper_arguments a t)) ≡ n + 1
  long = length-map (helper_arguments a t) g ∙ arguments-long a t n h.variables h.place

  told : (q : ℕ) (u : Term) → q < n + 1 → get_or (helper_arguments a t) q (Sort 0) ≡ u → fill no_variable (map g (helper_arguments a t)) (length a.order - q) ≡ g u
  told q u less is =
      ap (λ m. fill no_variable (map g (helper_arguments a t)) (m - q)) h.variables
      ∙ (at-place (map g (helper_arguments a t)) n q long less
      ∙ (get-mapped g (helper_arguments a t) q (omega (arith, arguments-long a t n h.variables h.place, less)) ∙ ap g is))

  -- a variable of the outer clause
  variable-told : (v : ℕ) → v < n → inst (fill no_variable (map g (helper_arguments a t))) (variable_in a v) ≡ g (Var v)
  variable-told v less = by (nat_lt (place_in a.order v) a.place) refl
    where
      there : (place_in a.order v < length a.order) × (slice_get a.order (place_in a.order v) ≡ Some v)
      there = place-there a.order v (h.each v less)

      low : place_in a.order v < n
      low = let l : place_in a.order v < length a.order = there.0 in omega (arith, l, h.variables)

      by : (b : Bool) → nat_lt (place_in a.order v) a.place ≡ b
          → fill no_variable (map g (helper_arguments a t)) (length a.order - cond b (place_in a.order v) (place_in a.order v + 1)) ≡ g (Var v)
      by true is =
          told (place_in a.order v) (Var v) (omega (arith, low))
          (get-before a.order a.place (place_in a.order v) v (t ∷ map Var (drop a.place a.order)) (grind (arith, nat_tests)) there.1)
      by false is =
          told (place_in a.order v + 1) (Var v) (omega (arith, low))
          (ap (λ i. get_or (helper_arguments a t) i (Sort 0)) (let e : place_in a.order v + 1 ≡ suc (place_in a.order v) = omega arith in e)
          ∙ get-after a.order a.place (place_in a.order v) v t (grind (arith, nat_tests)) there.1)

  scrutinee-told : inst (fill no_variable (map g (helper_arguments a t))) (Var (length a.order - a.place)) ≡ g t
  scrutinee-told =
      told a.place t (let l : a.place ≤ n = h.place in omega (arith, l))
      (get-at a.order a.place t (map Var (drop a.place a.order)) (let l : a.place ≤ n = h.place in omega (arith, l, h.variables)))

  -- a term of the outer clause
  term-told : (u : Term) → IsScoped S n u → ((v : ℕ) → v < n → g (Var v) ≡ Var v)
      → under_solution (map g (helper_arguments a t)) (inst (variable_in a) u) ≡ u
  term-told u scoped stays =
      inst-inst (fill no_variable (map g (helper_arguments a t))) (variable_in a) u
      ∙ inst-scoped (λ v. inst (fill no_variable (map g (helper_arguments a t))) (variable_in a v)) u n
      (λ v less. variable-told v less ∙ stays v less) scoped.variables

  terms-told : (us : List Term) → All (IsScoped S n) us → ((v : ℕ) → v < n → g (Var v) ≡ Var v)
      → map (under_solution (map g (helper_arguments a t))) (map (inst (variable_in a)) us) ≡ us
  terms-told [] all stays = refl
  terms-told (u ∷ us) all stays =
      ap₂ (λ x xs. x ∷ xs) (term-told u (All-head (IsScoped S n) u us all) stays) (terms-told us (All-tail (IsScoped S n) u us all) stays)

  -- at the arguments, changed by what keeps the variables, the columns are the terms of the outer clause and the changed scrutinee
  pub columns-told : (us : List Term) → All (IsScoped S n) us → ((v : ℕ) → v < n → g (Var v) ≡ Var v)
      → map (under_solution (map g (helper_arguments a t))) (helper_terms a us) ≡ us ++ g t ∷ []
  columns-told us all stays =
      map-append (under_solution (map g (helper_arguments a t))) (map (inst (variable_in a)) us) (Var (length a.order - a.place) ∷ [])
      ∙ ap₂ (λ xs ys. xs ++ ys) (terms-told us all stays) (ap (λ x. x ∷ []) scrutinee-told)
