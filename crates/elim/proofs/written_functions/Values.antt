-- The values of the recursion and the types of the parts, in a signature that has the entries of a plan.
use Rattle.std.proofs.Common.{◌≡◌, ℕ, suc, ◌+◌, ◌<◌, ◌≤◌, Option, Some, None, List, [], ◌∷◌, ◌++◌, codes, drop, length, map, take, refl, sym, ap, ap₂, ◌∙◌, subst as transport, arith, append-nil, append_assoc}
use Rattle.std.proofs.lemmas.List.{length-take-le}
use Rattle.theory.specs.Eliminators.{no_variable}
use Rattle.theory.specs.PreludeFamilies.{level_text}
use Rattle.theory.specs.Signatures.{Definition, IsPrefix, Signature}
use Rattle.theory.specs.SignatureScopes.{IsScoped, IsScopedTelescope}
use Rattle.theory.specs.Telescopes.{applied, functions, products, variables, weaken_by}
use Rattle.theory.specs.Terms.{Const, Term, Var}
use Rattle.theory.specs.WellFormed.{IsWellFormed}
use Rattle.theory.proofs.Instances.{inst-same, inst-var, ren-is_inst}
use Rattle.theory.proofs.Pushing.{prefix_transitive}
use Rattle.theory.proofs.Shifts.{weaken_by-is_lift}
use Rattle.theory.proofs.Widening.{prefix_keeps}
use Rattle.case_trees.specs.Points.{under_solution}
use Rattle.tree_translation.specs.Entries.{function_by_recursion, helper_node}
use Rattle.tree_translation.specs.Naming.{Naming, below_name, helper_name, motive_name, rec_name, step_name, part_named}
use Rattle.tree_translation.specs.Plans.{Part, Plan, own_part}
use Rattle.tree_translation.specs.Recursion.{Recursion, below_type, motive_at, parameters_at, recursion_of, remaining_positions, scrutinee_at, terms_at}
use Rattle.clause_reports.specs.Equations.{last_argument, number_of, part_at, values_of_recursion}
use Rattle.clause_reports.specs.Generated.{all_name}
use Rattle.clause_reports.specs.elaboration.Functions.{first_domains}
use Rattle.clause_reports.specs.elaboration.Walking.{Opened}
use Rattle.function_checks.proofs.function_clauses.OwnParts.{domains-scoped}
use Rattle.resolve.specs.Functions.{Function}
use Rattle.function_session.proofs.equation_laws.SameRecursion.{recursion-same}
use Rattle.elim.specs.written_functions.Clauses as written
use Rattle.elim.specs.written_functions.Clauses.{AreValues, Values, part_type, parts_of}
use Rattle.elim.proofs.written_functions.Equations.{AreLast, placed_at}
use Rattle.elim.proofs.written_functions.PartEntries.{HasName, HasType, number-found}
use Rattle.elim.proofs.written_functions.PlanGiven.{IsPlanGiven, helpers-count, own-made}
use Rattle.elim.proofs.written_functions.Recursors.{filled, of-family, type-put, type-take, values-put, values-same}

-- ---- values

abbrev pub values_at : Signature → Plan → Option Recursion → List Values
values_at T plan None = []
values_at T plan (Some r) = record {
  term = values_of_recursion T plan r (variables plan.arity);
  type = below_type (number_of T) plan r (variables plan.arity);
} ∷ []

-- the values of the recursion, if there are helpers
abbrev pub values_in : Signature → Plan → List Part → List Values
values_in T plan (own ∷ helper ∷ helpers) = values_at T plan (recursion_of T plan)
values_in T plan parts = []

values-with : (T : Signature) (plan : Plan) (parts : List Part) → 0 < length (drop 1 parts) → values_in T plan parts ≡ values_at T plan (recursion_of T plan)
values-with T plan [] low = absurd (omega (arith, low))
values-with T plan (own ∷ []) low = absurd (omega (arith, low))
values-with T plan (own ∷ helper ∷ helpers) low = refl

-- ---- the entries of a plan

-- the type of helper `part` with numbers for the names in it
abbrev pub helper_type : Plan → Option Recursion → Part → Naming → Term
helper_type plan r part number = products (helper_node plan r part number).context (helper_node plan r part number).goal

-- The entries that a recursion uses are there, and the function's term is the recursor, by their numbers.
pub record HasRecursor (T : Signature) (plan : Plan) (r : Recursion) (body : Term) : Type 0 where
  pub all : HasName T (all_name r.family plan.level)
  pub below : HasName T (below_name r.family plan.level)
  pub rec : HasName T (rec_name r.family plan.level)
  pub motive : HasName T (motive_name plan.name)
  pub step : HasName T (step_name plan.name)
  pub body_is : body ≡ function_by_recursion plan r (number_of T)

-- The helpers of a plan are there, with the types that they are made with; with recursion and helpers the recursor is there.
pub record IsMade (S : Signature) (plan : Plan) (T : Signature) (body : Term) : Type 0 where
  pub well : IsWellFormed T
  pub prefix : IsPrefix S T
  pub helpers : (k : ℕ) → k < length (drop 1 plan.parts)
      → HasType T (helper_name plan.name (1 + k)) (helper_type plan (recursion_of S plan) (part_at plan (suc k)) (number_of T))
  pub recursor : (r : Recursion) → recursion_of S plan ≡ Some r → 0 < length (drop 1 plan.parts) → HasRecursor T plan r body

pub name-same : (T U : Signature) (name : List ℕ) → IsWellFormed T → IsWellFormed U → IsPrefix T U → HasName T name → number_of T name ≡ number_of U name
name-same T U name well other prefix h =
    let there : HasType T name h.type = record { number = h.number; body = h.body; there = h.there } in
    let stays : HasType U name h.type =
    record { number = h.number; body = h.body; there = (prefix_keeps prefix).entry h.number (Definition name h.type h.body) h.there } in
    number-found T name h.type well there ∙ sym (number-found U name h.type other stays)

weaken-none : (t : Term) → weaken_by 0 t ≡ t
weaken-none t = ren-is_inst (λ n. n + 0) t ∙ (inst-same t (λ n. ap Var (let e : n + 0 ≡ n = omega arith in e)) ∙ inst-var t)

module _ (S : Signature) (f : Function) (plan : Plan) (h : IsPlanGiven S f plan) (typed : IsScoped S 0 f.type) where
  tele-is : (own_part plan).tele ≡ first_domains f.arity f.type
  tele-is = ap (λ (p : Part). p.tele) (own-made S f plan h).is ∙ ap (λ (q : Opened). q.tele) h.own_opened

  tele-long : length (own_part plan).tele ≡ f.arity
  tele-long = ap length tele-is ∙ h.long

  same-in : (U : Signature) → IsPrefix S U → recursion_of S plan ≡ recursion_of U plan
  same-in U prefix =
      recursion-same S U prefix plan
      (transport (IsScopedTelescope S 0) (sym tele-is) (domains-scoped S 0 f.arity f.type typed))

  -- the variables of the function at the first terms
  at-first : (terms : List Term) → f.arity ≤ length terms
      → map (under_solution (take f.arity terms)) (variables plan.arity) ≡ take f.arity terms
  at-first terms wide =
      ap (λ n. map (under_solution (take f.arity terms)) (variables n)) (h.arity ∙ sym (length-take-le f.arity terms wide))
      ∙ filled no_variable (take f.arity terms)

  module _ (T : Signature) (body : Term) (made : IsMade S plan T body) where
    some-helper : 1 < length (parts_of f) → 0 < length (drop 1 plan.parts)
    some-helper low = omega (arith, low, helpers-count S f plan h)

    -- ---- the types of helpers

    type-of : (o : Option Recursion) (part : Part) → recursion_of S plan ≡ o → f.arity ≤ length part.terms
        → helper_type plan o part (number_of T)
        ≡ products (part.tele ++ map (λ (v : Values). under_solution (take f.arity part.terms) v.type) (values_at T plan o))
        (weaken_by (length (values_at T plan o)) part.goal)
    type-of None part is wide = ap₂ products (sym (append-nil part.tele)) (sym (weaken-none part.goal))
    type-of (Some r) part is wide =
        let of = of-family S plan r is in
        let below : below_type (number_of T) plan r part.terms
        ≡ under_solution (take f.arity part.terms) (below_type (number_of T) plan r (variables plan.arity)) =
        sym (type-take plan r of (number_of T) part.terms)
        ∙ (ap (λ n. below_type (number_of T) plan r (take n part.terms)) tele-long
        ∙ sym (type-put plan r of (take f.arity part.terms) (number_of T) (variables plan.arity)
        ∙ ap (below_type (number_of T) plan r) (at-first part.terms wide))) in
        ap₂ (λ b g. products (part.tele ++ b ∷ []) g) below (sym (weaken_by-is_lift 1 part.goal))

    pub part-typed : (k : ℕ) → k < length (drop 1 plan.parts) → f.arity ≤ length (part_at plan (suc k)).terms
        → HasType T (part_named f.name (suc k)) (part_type (placed_at S f plan (values_in T plan plan.parts)) (suc k))
    part-typed k low wide =
        let part = part_at plan (suc k) in
        let made_of : List Values → Term = λ vs.
        products (part.tele ++ map (λ (v : Values). under_solution (take f.arity part.terms) v.type) vs) (weaken_by (length vs) part.goal) in
        transport (λ name. HasType T (helper_name name (suc k)) (made_of (values_in T plan plan.parts))) h.name
        (transport (λ n. HasType T (helper_name plan.name n) (made_of (values_in T plan plan.parts))) (let e : 1 + k ≡ suc k = omega arith in e)
        (transport (HasType T (helper_name plan.name (1 + k)))
        (type-of (recursion_of S plan) part refl wide
        ∙ ap made_of (ap (values_at T plan) (same-in T made.prefix) ∙ sym (values-with T plan plan.parts (omega (arith, low)))))
        (made.helpers k low)))

    -- ---- the last argument of helpers

    last-of : (o : Option Recursion) (U : Signature) (terms : List Term) → recursion_of S plan ≡ o → 0 < length (drop 1 plan.parts) → IsWellFormed U → IsPrefix T U
        → f.arity ≤ length terms
        → last_argument U plan o terms ≡ map (λ (v : Values). under_solution (take f.arity terms) v.term) (values_at T plan o)
    last-of None U terms is low well prefix wide = refl
    last-of (Some r) U terms is low well prefix wide =
        let of = of-family S plan r is in
        let has = made.recursor r is low in
        ap (λ t. t ∷ [])
        (ap (λ n. values_of_recursion U plan r (take n terms)) h.arity
        ∙ (sym (values-same T U plan r (take f.arity terms)
        (name-same T U (all_name r.family plan.level) made.well well prefix has.all)
        (name-same T U (motive_name plan.name) made.well well prefix has.motive)
        (name-same T U (step_name plan.name) made.well well prefix has.step))
        ∙ sym (values-put plan r of (take f.arity terms) T (variables plan.arity)
        ∙ ap (values_of_recursion T plan r) (at-first terms wide))))

    pub values-last : (U : Signature) → IsWellFormed U → IsPrefix T U → AreLast f plan (values_in T plan plan.parts) U
    values-last U well prefix some terms wide =
        let low = some-helper some in
        ap (λ o. last_argument U plan o terms) (sym (same-in U (prefix_transitive S T U made.prefix prefix)))
        ∙ (last-of (recursion_of S plan) U terms refl low well prefix wide
        ∙ ap (map (λ (v : Values). under_solution (take f.arity terms) v.term))
        (ap (values_at T plan) (same-in T made.prefix) ∙ sym (values-with T plan plan.parts low)))

    -- ---- the recursor

    values-of : (o : Option Recursion) (U : Signature) → recursion_of S plan ≡ o → 0 < length (drop 1 plan.parts) → IsWellFormed U → IsPrefix T U
        → (vs : List Values) → AreValues U (placed_at S f plan vs) body (values_at T plan o)
    values-of None U is low well prefix vs = written.none
    values-of (Some r) U is low well prefix vs =
        let has = made.recursor r is low in
        let n = plan.arity in
        let ts = variables n in
        let tele = (own_part plan).tele in
        let ps = parameters_at tele r ts in
        let motive = motive_at (number_of T) plan r ts in
        let fixed = terms_at r.admission.fixed ts in
        let step = applied (Const (number_of T (step_name plan.name))) fixed in
        let behind = scrutinee_at r ts in
        let rest = terms_at (remaining_positions n r) ts in
        let same : (name : List ℕ) → HasName T name → number_of T name ≡ number_of U name =
        λ name there. name-same T U name made.well well prefix there in
        let steps : step ≡ applied (Const (number_of U (f.name ++ codes "!step"))) fixed =
        ap (λ c. applied (Const c) fixed) (same (step_name plan.name) has.step ∙ ap (λ name. number_of U (step_name name)) h.name) in
        let recursor : body ≡ functions tele (applied (Const (number_of U (rec_name r.family plan.level))) ((ps ++ motive ∷ []) ++ step ∷ (behind ++ rest))) =
        has.body_is
        ∙ (ap (λ m. functions tele (applied (Const (number_of T (rec_name r.family plan.level)))
        (parameters_at tele r (variables m) ++ motive_at (number_of T) plan r (variables m) ∷ applied (Const (number_of T (step_name plan.name))) (terms_at r.admission.fixed (variables m)) ∷ (scrutinee_at r (variables m) ++ terms_at (remaining_positions m r) (variables m))))) (tele-long ∙ sym h.arity)
        ∙ ap₂ (λ c xs. functions tele (applied (Const c) xs)) (same (rec_name r.family plan.level) has.rec)
        (sym (append_assoc ps (motive ∷ []) (step ∷ (behind ++ rest))))) in
        transport (λ v. AreValues U (placed_at S f plan vs) body (v ∷ []))
        (ap₂ (λ (t a : Term). let v : Values = record { term = t; type = a } in v)
        (ap₂ (λ c xs. applied (Const c) xs) (sym (same (all_name r.family plan.level) has.all)) (append_assoc ps (motive ∷ []) (step ∷ behind)))
        (ap₂ (λ c xs. applied (Const c) xs) (sym (same (below_name r.family plan.level) has.below)) (append_assoc ps (motive ∷ []) behind)))
        (written.some r.family.name (level_text plan.level) (ps ++ motive ∷ []) fixed behind rest step steps recursor)

    values-of-parts : (parts : List Part) → parts ≡ plan.parts → (U : Signature) → IsWellFormed U → IsPrefix T U → (vs : List Values)
        → AreValues U (placed_at S f plan vs) body (values_in T plan parts)
    values-of-parts [] same U well prefix vs = written.none
    values-of-parts (own ∷ []) same U well prefix vs = written.none
    values-of-parts (own ∷ helper ∷ helpers) same U well prefix vs =
        transport (λ o. AreValues U (placed_at S f plan vs) body (values_at T plan o)) (same-in T made.prefix)
        (values-of (recursion_of S plan) U refl (let low : 0 < length (drop 1 plan.parts) = omega (arith, ap (λ ps. length (drop 1 ps)) same) in low) well prefix vs)

    pub values-are : (U : Signature) → IsWellFormed U → IsPrefix T U
        → AreValues U (placed_at S f plan (values_in T plan plan.parts)) body (values_in T plan plan.parts)
    values-are U well prefix = values-of-parts plan.parts refl U well prefix (values_in T plan plan.parts)
