-- The values of a recursion at the variables of a function's telescope, and at terms for them.
use Rattle.std.proofs.Common.{◌≡◌, ℕ, zero, suc, ◌+◌, ◌≤◌, ◌<◌, true, flat_map, Option, Some, None, option_map, option_and_then, List, [], ◌∷◌, ◌++◌, length, map, take, refl, sym, ap, ap₂, ◌∙◌, subst as transport, arith}
use Rattle.std.specs.List.{range_with_len}
use Rattle.std.proofs.lemmas.List.{map-append}
use Rattle.std.proofs.lemmas.Option.{get_or_from_slice_get, none-some}
use Rattle.theory.specs.Eliminators.{no_variable}
use Rattle.theory.specs.Families.{Family}
use Rattle.theory.specs.Signatures.{Signature}
use Rattle.theory.specs.Spines.{spine_of}
use Rattle.theory.specs.Substitutions.{extend, fill, inst}
use Rattle.theory.specs.Telescopes.{Telescope, applied, variables}
use Rattle.theory.specs.Terms.{Const, Fam, Sort, Term}
use Rattle.theory.proofs.Instances.{inst-inst, inst-same}
use Rattle.theory.proofs.Instantiation.{inst-applied, inst-fill}
use Rattle.theory.proofs.Lists.{some_is}
use Rattle.core_terms.specs.Levels.{variable}
use Rattle.kernel_reduce.specs.Entries.{family_at}
use Rattle.tele_eq.specs.Items.{term_at}
use Rattle.tele_eq.specs.Levels.{is_among}
use Rattle.unification.proofs.Levels.{among-later, among-left, among-own, among-right}
use Rattle.case_trees.proofs.Arguments.{spine-applied}
use Rattle.case_trees.specs.Points.{under_solution}
use Rattle.tree_translation.proofs.structural_rec.AdmittingPositions.{admission-decides}
use Rattle.tree_translation.specs.Naming.{Naming, below_name, motive_name, step_name}
use Rattle.tree_translation.specs.Plans.{Plan, own_part}
use Rattle.tree_translation.specs.Recursion.{Recursion, below_type, parameters_at, recursion_at, recursion_of, recursion_with, scrutinee_at, terms_at}
use Rattle.tree_translation.proofs.structural_rec.RecursionOrders.{order-whole}
use Rattle.tree_translation.specs.structural_rec.Orders.{recursive_positions, unless_among}
use Rattle.tree_translation.specs.structural_rec.Positions.{Admission, Admits, admission}
use Rattle.clause_reports.specs.Equations.{number_of, values_of_recursion}
use Rattle.clause_reports.specs.Generated.{all_name}

-- ---- terms for variables

fill-past : (s : ℕ → Term) (us : List Term) (v : ℕ) → fill s us (v + length us) ≡ s v
fill-past s [] v = ap s (let e : v + 0 ≡ v = omega arith in e)
fill-past s (u ∷ us) v =
    ap (fill (extend s u) us) (let e : v + suc (length us) ≡ suc v + length us = omega arith in e) ∙ fill-past (extend s u) us (suc v)

-- the variables of the terms that are put for them
pub filled : (s : ℕ → Term) (us : List Term) → map (inst (fill s us)) (variables (length us)) ≡ us
filled s [] = refl
filled s (u ∷ us) =
    ap₂ (λ t ts. t ∷ ts) (ap (fill (extend s u) us) (let e : length us ≡ 0 + length us = omega arith in e) ∙ fill-past (extend s u) us 0)
    (filled (extend s u) us)

take-map : (g : Term → Term) (k : ℕ) (ts : List Term) → map g (take k ts) ≡ take k (map g ts)
take-map g zero ts = refl
take-map g (suc k) [] = refl
take-map g (suc k) (t ∷ ts) = ap (λ us. g t ∷ us) (take-map g k ts)

pub map-each : (g h : Term → Term) → ((t : Term) → g t ≡ h t) → (ts : List Term) → map g ts ≡ map h ts
map-each g h same [] = refl
map-each g h same (t ∷ ts) = ap₂ (λ u us. u ∷ us) (same t) (map-each g h same ts)

map-map : (g h : Term → Term) (ts : List Term) → map g (map h ts) ≡ map (λ t. g (h t)) ts
map-map g h [] = refl
map-map g h (t ∷ ts) = ap (λ us. g (h t) ∷ us) (map-map g h ts)

module _ (us : List Term) where
  term-put : (ts : List Term) (p : ℕ) → under_solution us (term_at ts p) ≡ term_at (map (under_solution us) ts) p
  term-put [] p = refl
  term-put (t ∷ ts) zero = refl
  term-put (t ∷ ts) (suc p) = term-put ts p

  terms-put : (ts : List Term) (positions : List ℕ) → map (under_solution us) (terms_at positions ts) ≡ terms_at positions (map (under_solution us) ts)
  terms-put ts [] = refl
  terms-put ts (p ∷ positions) = ap₂ (λ x xs. x ∷ xs) (term-put ts p) (terms-put ts positions)

  inner-put : (ts : List Term) (t : Term)
      → under_solution us (inst (fill no_variable ts) t) ≡ inst (fill no_variable (map (under_solution us) ts)) t
  inner-put ts t =
      inst-inst (fill no_variable us) (fill no_variable ts) t ∙ inst-same t (λ v. inst-fill (fill no_variable us) no_variable ts v)

-- the type of a position is a family at arguments
pub record IsOfFamily (plan : Plan) (r : Recursion) : Type 0 where
  pub number : ℕ
  pub arguments : List Term
  pub is : term_at (own_part plan).tele r.position ≡ applied (Fam number) arguments
  pub within : (p : ℕ) → is_among p (recursive_positions r.position r.admission) ≡ true → p < length (own_part plan).tele

admitted-with : (j : ℕ) (a : Admission) (o : Option Family) (r : Recursion) → option_map (recursion_with j a) o ≡ Some r
    → (r.position ≡ j) × (r.admission ≡ a)
admitted-with j a None r e = absurd (none-some r e)
admitted-with j a (Some f) r e = let same : recursion_with j a f ≡ r = some_is e in (sym (ap (λ (x : Recursion). x.position) same), sym (ap (λ (x : Recursion). x.admission) same))

pub of-family : (S : Signature) (plan : Plan) (r : Recursion) → recursion_of S plan ≡ Some r → IsOfFamily plan r
of-family S plan r e = by-position plan.position e
  where
    tele : Telescope
    tele = (own_part plan).tele

    ordered : (j : ℕ) (a : Admission) → Admits S (own_part plan).tele j a → (p : ℕ) → is_among p (recursive_positions j a) ≡ true → p < length (own_part plan).tele
    ordered j a m p among =
        let first = recursive_positions j a in
        (order-whole S (own_part plan).tele j a m).within p
        (among-left p first (flat_map (unless_among first) (range_with_len 0 (length (own_part plan).tele))) among)

    by-admission : (j : ℕ) (o : Option Admission) → admission S (own_part plan).tele j ≡ o
        → option_and_then (λ a. option_map (recursion_with j a) (family_at S a.number)) o ≡ Some r → IsOfFamily plan r
    by-admission j None at is = absurd (none-some r is)
    by-admission j (Some a) at is =
        let admits : Admits S (own_part plan).tele j a = (admission-decides S (own_part plan).tele j a).0 at in
        let same = admitted-with j a (family_at S a.number) r is in
        record {
          number = a.number;
          arguments = admits.parameters ++ map (variable j) a.indices;
          is =
              ap (term_at (own_part plan).tele) same.0
              ∙ get_or_from_slice_get (own_part plan).tele j (applied (Fam a.number) (admits.parameters ++ map (variable j) a.indices)) (Sort 0) admits.type;
          within =
              ordered r.position r.admission
              (transport (λ i. Admits S (own_part plan).tele i r.admission) (sym same.0)
              (transport (Admits S (own_part plan).tele j) (sym same.1) admits));
        }

    by-position : (o : Option ℕ) → option_and_then (recursion_at S (own_part plan).tele) o ≡ Some r → IsOfFamily plan r
    by-position None is = absurd (none-some r is)
    by-position (Some j) is = by-admission j (admission S (own_part plan).tele j) refl is

module _ (plan : Plan) (r : Recursion) (h : IsOfFamily plan r) (us : List Term) where
  tele : Telescope
  tele = (own_part plan).tele

  parameters-are : (ts : List Term)
      → parameters_at (own_part plan).tele r ts ≡ take (length r.family.parameters) (map (inst (fill no_variable (take r.position ts))) h.arguments)
  parameters-are ts =
      let s = fill no_variable (take r.position ts) in
      ap (λ t. take (length r.family.parameters) (spine_of (inst s t))) h.is
      ∙ (ap (λ t. take (length r.family.parameters) (spine_of t)) (inst-applied s (Fam h.number) h.arguments)
      ∙ ap (take (length r.family.parameters)) (spine-applied (Fam h.number) (map (inst s) h.arguments)))

  parameters-put : (ts : List Term)
      → map (under_solution us) (parameters_at (own_part plan).tele r ts) ≡ parameters_at (own_part plan).tele r (map (under_solution us) ts)
  parameters-put ts =
      let k = length r.family.parameters in
      let s = fill no_variable (take r.position ts) in
      let q = fill no_variable (take r.position (map (under_solution us) ts)) in
      ap (map (under_solution us)) (parameters-are ts)
      ∙ (take-map (under_solution us) k (map (inst s) h.arguments)
      ∙ (ap (take k)
      (map-map (under_solution us) (inst s) h.arguments
      ∙ map-each (λ t. under_solution us (inst s t)) (inst q)
      (λ t. inner-put us (take r.position ts) t ∙ ap (λ xs. inst (fill no_variable xs) t) (take-map (under_solution us) r.position ts)) h.arguments)
      ∙ sym (parameters-are (map (under_solution us) ts))))

  fixed-put : (c : ℕ) (ts : List Term)
      → under_solution us (applied (Const c) (terms_at r.admission.fixed ts)) ≡ applied (Const c) (terms_at r.admission.fixed (map (under_solution us) ts))
  fixed-put c ts = inst-applied (fill no_variable us) (Const c) (terms_at r.admission.fixed ts) ∙ ap (applied (Const c)) (terms-put us ts r.admission.fixed)

  pub values-put : (T : Signature) (ts : List Term)
      → under_solution us (values_of_recursion T plan r ts) ≡ values_of_recursion T plan r (map (under_solution us) ts)
  values-put T ts =
      let vs = map (under_solution us) ts in
      let at : List ℕ → List Term → Term = λ name xs. applied (Const (number_of T name)) (terms_at r.admission.fixed xs) in
      let rest : List Term → List Term = λ xs. at (motive_name plan.name) xs ∷ at (step_name plan.name) xs ∷ scrutinee_at r xs in
      let same : map (under_solution us) (rest ts) ≡ rest vs =
      ap₂ (λ x xs. x ∷ xs) (fixed-put (number_of T (motive_name plan.name)) ts)
      (ap₂ (λ x xs. x ∷ xs) (fixed-put (number_of T (step_name plan.name)) ts) (terms-put us ts (r.admission.indices ++ r.position ∷ []))) in
      inst-applied (fill no_variable us) (Const (number_of T (all_name r.family plan.level))) (parameters_at (own_part plan).tele r ts ++ rest ts)
      ∙ ap (applied (Const (number_of T (all_name r.family plan.level))))
      (map-append (under_solution us) (parameters_at (own_part plan).tele r ts) (rest ts) ∙ ap₂ (λ xs ys. xs ++ ys) (parameters-put ts) same)

  pub type-put : (number : Naming) (ts : List Term)
      → under_solution us (below_type number plan r ts) ≡ below_type number plan r (map (under_solution us) ts)
  type-put number ts =
      let vs = map (under_solution us) ts in
      let rest : List Term → List Term = λ xs. applied (Const (number (motive_name plan.name))) (terms_at r.admission.fixed xs) ∷ scrutinee_at r xs in
      let same : map (under_solution us) (rest ts) ≡ rest vs =
      ap₂ (λ x xs. x ∷ xs) (fixed-put (number (motive_name plan.name)) ts) (terms-put us ts (r.admission.indices ++ r.position ∷ [])) in
      inst-applied (fill no_variable us) (Const (number (below_name r.family plan.level))) (parameters_at (own_part plan).tele r ts ++ rest ts)
      ∙ ap (applied (Const (number (below_name r.family plan.level))))
      (map-append (under_solution us) (parameters_at (own_part plan).tele r ts) (rest ts) ∙ ap₂ (λ xs ys. xs ++ ys) (parameters-put ts) same)

-- ---- the first terms

take-take : (k n : ℕ) (ts : List Term) → k ≤ n → take k (take n ts) ≡ take k ts
take-take zero n ts le = refl
take-take (suc k) zero ts le = absurd (omega (arith, le))
take-take (suc k) (suc n) [] le = refl
take-take (suc k) (suc n) (t ∷ ts) le = ap (λ us. t ∷ us) (take-take k n ts (omega (arith, le)))

term-take : (n : ℕ) (ts : List Term) (p : ℕ) → p < n → term_at (take n ts) p ≡ term_at ts p
term-take zero ts p low = absurd (omega (arith, low))
term-take (suc n) [] p low = refl
term-take (suc n) (t ∷ ts) zero low = refl
term-take (suc n) (t ∷ ts) (suc p) low = term-take n ts p (omega (arith, low))

terms-take : (n : ℕ) (ts : List Term) (positions : List ℕ) → ((p : ℕ) → is_among p positions ≡ true → p < n) → terms_at positions (take n ts) ≡ terms_at positions ts
terms-take n ts [] low = refl
terms-take n ts (p ∷ positions) low =
    ap₂ (λ x xs. x ∷ xs) (term-take n ts p (low p (among-own p positions)))
    (terms-take n ts positions (λ q among. low q (among-later q p positions among)))

-- the type of the values is read off the terms of the function's own columns
pub type-take : (plan : Plan) (r : Recursion) → IsOfFamily plan r → (number : Naming) (ts : List Term)
    → below_type number plan r (take (length (own_part plan).tele) ts) ≡ below_type number plan r ts
type-take plan r h number ts =
    let tele = (own_part plan).tele in
    let n = length tele in
    let made : List Term → List Term → List Term → Term = λ ps fs xs.
    applied (Const (number (below_name r.family plan.level))) (ps ++ applied (Const (number (motive_name plan.name))) fs ∷ xs) in
    let position : r.position < n =
    h.within r.position
    (among-right r.position r.admission.fixed (r.admission.indices ++ r.position ∷ [])
    (among-right r.position r.admission.indices (r.position ∷ []) (among-own r.position []))) in
    let parameters : parameters_at tele r (take n ts) ≡ parameters_at tele r ts =
    ap (λ us. take (length r.family.parameters) (spine_of (inst (fill no_variable us) (term_at tele r.position))))
    (take-take r.position n ts (omega (arith, position))) in
    let fixed : terms_at r.admission.fixed (take n ts) ≡ terms_at r.admission.fixed ts =
    terms-take n ts r.admission.fixed (λ p among. h.within p (among-left p r.admission.fixed (r.admission.indices ++ r.position ∷ []) among)) in
    let scrutinee : scrutinee_at r (take n ts) ≡ scrutinee_at r ts =
    terms-take n ts (r.admission.indices ++ r.position ∷ [])
    (λ p among. h.within p (among-right p r.admission.fixed (r.admission.indices ++ r.position ∷ []) among)) in
    ap (λ ps. made ps (terms_at r.admission.fixed (take n ts)) (scrutinee_at r (take n ts))) parameters
    ∙ ap₂ (made (parameters_at tele r ts)) fixed scrutinee

-- ---- numbers

-- the values are the same in a signature where their names have the same numbers
pub values-same : (T U : Signature) (plan : Plan) (r : Recursion) (ts : List Term) → number_of T (all_name r.family plan.level) ≡ number_of U (all_name r.family plan.level)
    → number_of T (motive_name plan.name) ≡ number_of U (motive_name plan.name) → number_of T (step_name plan.name) ≡ number_of U (step_name plan.name)
    → values_of_recursion T plan r ts ≡ values_of_recursion U plan r ts
values-same T U plan r ts all motive step =
    let made : ℕ → ℕ → ℕ → Term = λ a m s.
    applied (Const a)
    (parameters_at (own_part plan).tele r ts
    ++ applied (Const m) (terms_at r.admission.fixed ts) ∷ applied (Const s) (terms_at r.admission.fixed ts) ∷ scrutinee_at r ts) in
    ap (λ a. made a (number_of T (motive_name plan.name)) (number_of T (step_name plan.name))) all
    ∙ ap₂ (λ m s. made (number_of U (all_name r.family plan.level)) m s) motive step
