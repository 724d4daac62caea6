-- The step, the helpers, and so all drafts of a plan are scoped.
use Rattle.std.proofs.Common.{◌≡◌, ℕ, suc, ◌+◌, ◌-◌, ◌<◌, ◌≤◌, Option, Some, None, List, [], ◌∷◌, ◌++◌, length, drop, slice_get, All, Ok, refl, sym, ap, subst, ◌∙◌, arith}
use Rattle.std.proofs.lemmas.List.{length-append}
use Rattle.theory.specs.Terms.{Term, lift}
use Rattle.theory.specs.Signatures.{Signature}
use Rattle.theory.specs.SignatureScopes.{IsConstantNumber, IsScoped, IsScopedTelescope}
use Rattle.theory.proofs.ScopedTerms.{HasNumbers, lift-scoped, scoped_over_more, scoped-wider, telescope-wider}
use Rattle.core_sig.specs.Drafts.{Draft}
use Rattle.core_sig.specs.ScopedDrafts.{IsScopedDraft}
use Rattle.entry_laws.proofs.order_scopes.OrderLengths.{order-counted}
use Rattle.entry_laws.proofs.order_scopes.OrderedScopes.{length-ordered, variables-scoped, variables-there}
use Rattle.tree_translation.specs.structural_rec.Laws.{IsOrder}
use Rattle.tree_translation.specs.Conditions.{IsPartOf, IsPlanned}
use Rattle.tree_translation.specs.Entries.{helper_entry, helper_node, ordered_variables, side_names, step_node}
use Rattle.tree_translation.specs.Naming.{Naming, helper_name, step_name}
use Rattle.tree_translation.specs.Plans.{Plan, Part, own_part}
use Rattle.tree_translation.specs.Recursion.{Recursion, below_type, first_positions, order_of, ordered_telescope, ordered_term, recursion_of}
use Rattle.tree_translation.proofs.Drafting.{AreHelpers, AreEntries, entries-are}
use Rattle.entry_laws.proofs.node_roots.RootNodes.{helper_node-over, step_node-over, length-below, first-within}
use Rattle.entry_laws.proofs.GrowingDrafts.{later-parts}
use Rattle.entry_laws.proofs.OnlyConstants.{Each, each-all, each-append, each-weaker}
use Rattle.entry_laws.proofs.OnlyEntries.{IsBased, is-based, step-like, helper-like}
use Rattle.entry_laws.proofs.TableNames.{all-each}
use Rattle.entry_laws.proofs.entry_scopes.WholeSplits.{IsNodeIn}
use Rattle.entry_laws.specs.draft_scopes.Laws.{IsOrdered}
use Rattle.entry_laws.proofs.draft_scopes.RenumberedDrafts.{motive_scoped}
use Rattle.exact_laws.proofs.own_scopes.PlainFunctions.{plain_function_scoped}
use Rattle.exact_laws.proofs.own_scopes.RecursiveFunctions.{recursive_function_scoped}
use Rattle.exact_laws.specs.step_scopes.Laws.{IsReadyFor, DraftsScopedAfterPrelude, HelperScoped, StepScoped}
use Rattle.exact_laws.proofs.step_scopes.BelowTypes.{below-there, below-last, with_below-there}
use Rattle.exact_laws.proofs.step_scopes.PartDrafts.{IsRootOf, part-draft}
use Rattle.exact_laws.proofs.step_scopes.PlanOrders.{order-there, plan-ordered}

-- ---- the step

pub first-some : (r : Recursion) → 0 < length (first_positions r)
first-some r =
    let a = length-append r.admission.fixed (r.admission.indices ++ r.position ∷ []) in
    let b = length-append r.admission.indices (r.position ∷ []) in
    omega (arith, a, b)

-- with recursion, the tree starts from the order of recursion
pub step-own : (S : Signature) (plan : Plan) (r : Recursion) (planned : IsPlanned S plan) → recursion_of S plan ≡ Some r
    → IsPartOf S plan planned.uses 0 (own_part plan) (ordered_telescope (own_part plan).tele (order_of (length (own_part plan).tele) (Some r)))
    (ordered_term (length (own_part plan).tele) (order_of (length (own_part plan).tele) (Some r)) (own_part plan).goal)
    (ordered_variables (order_of (length (own_part plan).tele) (Some r)) (length (own_part plan).tele))
step-own S plan r planned is =
    subst
    (λ o. IsPartOf S plan planned.uses 0 (own_part plan) (ordered_telescope (own_part plan).tele (order_of (length (own_part plan).tele) o))
    (ordered_term (length (own_part plan).tele) (order_of (length (own_part plan).tele) o) (own_part plan).goal)
    (ordered_variables (order_of (length (own_part plan).tele) o) (length (own_part plan).tele)))
    is planned.own

module _ (S : Signature) (plan : Plan) (r : Recursion) (based : IsBased S plan) (whole_order : IsOrder (length (own_part plan).tele) (order_of (length (own_part plan).tele) (Some r))) (ordered : IsOrdered S plan r) where
  pub step-there : (T : Signature) (number : Naming) → HasNumbers S T → Each (λ name. IsConstantNumber T (number name)) (side_names plan (Some r) 0)
      → IsNodeIn T (step_node plan r number)
  step-there T number more (Each.more below (Each.more motive all)) =
      let part = own_part plan in
      let count = length part.tele in
      let order = order_of count (Some r) in
      let tele = ordered_telescope part.tele order in
      let goal = ordered_term count order part.goal in
      let first = length (first_positions r) in
      let terms = ordered_variables order first in
      let long : length tele ≡ count = length-ordered part.tele order whole_order in
      let counted : length order ≡ count = order-counted count order whole_order in
      let le : first ≤ length tele = omega (arith, long, counted, first-within count r) in
      let type : IsScoped T first (below_type number plan r terms) =
      below-there T number plan r first terms below motive (telescope-wider more 0 part.tele based.own.is.context_scoped)
      (each-all (IsScoped T first) terms (variables-there T order first (first-some r))) in
      let whole = length-below first (below_type number plan r terms) tele le in
      record {
        context = with_below-there T first (below_type number plan r terms) tele le (telescope-wider more 0 tele ordered.telescope) type;
        goal =
            scoped_over_more T (length tele + 1) (length (step_node plan r number).context) (lift goal 1 (count - first)) (omega (arith, whole, le))
            (lift-scoped T (length tele) goal 1 (count - first) (scoped-wider more ordered.goal));
      }

  step-root : IsRootOf S plan (Some r) 0 (ordered_telescope (own_part plan).tele (order_of (length (own_part plan).tele) (Some r))) (step_node plan r)
  step-root = record {
    over = λ number. record { is_seen = (step_node-over plan r number).is_seen; hidden = (step_node-over plan r number).hidden };
    like = λ number other. step-like plan r number other;
    there = step-there;
  }

pub step-scoped : StepScoped
step-scoped S plan r d given is ordered e =
    let part = own_part plan in
    let count = length part.tele in
    let order = order_of count (Some r) in
    let tele = ordered_telescope part.tele order in
    let whole = order-there S plan r is in
    let long : length tele ≡ count = length-ordered part.tele order whole in
    let counted : length order ≡ count = order-counted count order whole in
    part-draft S plan given.planned.uses 0 part (Some r) order tele (ordered_term count order part.goal) (ordered_variables order count) (step_node plan r) (step_name plan.name) d given is
    (step-own S plan r given.planned is) ordered.telescope ordered.goal
    (subst (λ n. All (IsScoped S n) (ordered_variables order count)) (sym long) (variables-scoped S order count (omega (arith, counted))))
    (step-root S plan r (is-based S plan given.planned) whole ordered) e

-- ---- helpers

module _ (S : Signature) (plan : Plan) (planned : IsPlanned S plan) where
  helper-there : (o : Option Recursion) (k : ℕ) (part : Part) → IsScopedTelescope S 0 part.tele → IsScoped S (length part.tele) part.goal → All (IsScoped S (length part.tele)) part.terms
      → (T : Signature) (number : Naming) → HasNumbers S T → Each (λ name. IsConstantNumber T (number name)) (side_names plan o k) → IsNodeIn T (helper_node plan o part number)
  helper-there None k part tele goal terms T number more named = record { context = telescope-wider more 0 part.tele tele; goal = scoped-wider more goal }
  helper-there (Some r) k part tele goal terms T number more (Each.more below (Each.more motive all)) =
      let n = length part.tele in
      let type : IsScoped T n (below_type number plan r part.terms) =
      below-there T number plan r n part.terms below motive (telescope-wider more 0 (own_part plan).tele planned.own.context_scoped)
      (each-wider more n part.terms (each-all (IsScoped S n) part.terms terms)) in
      let long = length-append part.tele (below_type number plan r part.terms ∷ []) in
      record {
        context = below-last T part.tele (below_type number plan r part.terms) (telescope-wider more 0 part.tele tele) type;
        goal =
            scoped_over_more T (n + 1) (length (part.tele ++ below_type number plan r part.terms ∷ [])) (lift part.goal 1 0) (omega (arith, long))
            (lift-scoped T n part.goal 1 0 (scoped-wider more goal));
      }
    where
      each-wider : HasNumbers S T → (n : ℕ) (ts : List Term) → Each (IsScoped S n) ts → Each (IsScoped T n) ts
      each-wider more n ts all = each-weaker ts (λ t h. scoped-wider more h) all

  helper-root : (o : Option Recursion) (k : ℕ) (part : Part) → IsScopedTelescope S 0 part.tele → IsScoped S (length part.tele) part.goal → All (IsScoped S (length part.tele)) part.terms
      → IsRootOf S plan o k part.tele (helper_node plan o part)
  helper-root o k part tele goal terms = record {
    over = λ number. record { is_seen = (helper_node-over plan o part number).is_seen; hidden = (helper_node-over plan o part number).hidden };
    like = λ number other. helper-like plan o part number other;
    there = helper-there o k part tele goal terms;
  }

helper-draft : (S : Signature) (plan : Plan) (o : Option Recursion) (k : ℕ) (part : Part) (d : Draft) → IsReadyFor S plan → recursion_of S plan ≡ o
    → slice_get plan.parts (k + 1) ≡ Some part → helper_entry S plan o (k + 1) part ≡ Ok d → (d.base ≡ plan.base) × IsScopedDraft S d
helper-draft S plan o k part d given is at e =
    let part_is = given.planned.helpers k part at in
    part-draft S plan given.planned.uses (k + 1) part o (order_of (length part.tele) None) part.tele part.goal part.terms (helper_node plan o part) (helper_name plan.name (k + 1)) d given is
    part_is part_is.context_scoped part_is.goal_scoped part_is.terms_scoped
    (helper-root S plan given.planned o (k + 1) part part_is.context_scoped part_is.goal_scoped part_is.terms_scoped) e

pub helper-scoped : HelperScoped
helper-scoped S plan k part d given at e = helper-draft S plan (recursion_of S plan) k part d given refl at e

-- ---- all of them

abbrev IsOverPlan : Signature → Plan → Draft → Type 0
IsOverPlan S plan d = (d.base ≡ plan.base) × IsScopedDraft S d

module _ (S : Signature) (plan : Plan) (given : IsReadyFor S plan) where
  helpers-scoped : (o : Option Recursion) (k : ℕ) (parts : List Part) (helpers : List Draft) → recursion_of S plan ≡ o
      → ((j : ℕ) (part : Part) → slice_get parts j ≡ Some part → slice_get plan.parts (k + 1 + j) ≡ Some part) → AreHelpers S plan o (k + 1) parts helpers
      → Each (IsOverPlan S plan) helpers
  helpers-scoped o k [] [] is there AreHelpers.none = Each.none
  helpers-scoped o k [] (d ∷ others) is there are = elim are [ ]
  helpers-scoped o k (part ∷ parts) all is there (AreHelpers.more {helpers = helpers} {d = d} e are) =
      let place : k + 1 + 0 ≡ k + 1 = omega arith in
      each-append helpers (d ∷ [])
      (helpers-scoped o (k + 1) parts helpers is
      (λ j part at. let next : k + 1 + suc j ≡ k + 1 + 1 + j = omega arith in ap (slice_get plan.parts) (sym next) ∙ there (suc j) part at) are)
      (Each.more (helper-draft S plan o k part d given is (ap (slice_get plan.parts) (sym place) ∙ there 0 part refl) e) Each.none)

  all-helpers : (o : Option Recursion) (helpers : List Draft) → recursion_of S plan ≡ o → AreHelpers S plan o 1 (drop 1 plan.parts) helpers → Each (IsOverPlan S plan) helpers
  all-helpers o helpers is are =
      let one : 1 ≡ 0 + 1 = refl in
      helpers-scoped o 0 (drop 1 plan.parts) helpers is (later-parts plan.parts) are

  entries-scoped : (o : Option Recursion) (all : List Draft) → recursion_of S plan ≡ o → AreEntries S plan o all → Each (IsOverPlan S plan) all
  entries-scoped None all is (AreEntries.alone {helpers = helpers} {f = d} are e) =
      each-append helpers (d ∷ []) (all-helpers None helpers is are)
      (Each.more (plain_function_scoped S plan d given.ready given.first given.planned is e) Each.none)
  entries-scoped (Some r) all is (AreEntries.recursive {motive = motive} {step = step} {f = d} {helpers = helpers} first are second third) =
      let ordered : IsOrdered S plan r = plan-ordered S plan r given.planned is in
      Each.more (motive_scoped S plan r motive ordered first)
      (each-append helpers (step ∷ d ∷ []) (all-helpers (Some r) helpers is are)
      (Each.more (step-scoped S plan r step given is ordered second)
      (Each.more (recursive_function_scoped S plan r d given.planned third) Each.none)))

pub drafts-scoped : DraftsScopedAfterPrelude
drafts-scoped S plan drafts given e =
    all-each (IsOverPlan S plan) drafts (entries-scoped S plan given (recursion_of S plan) drafts refl (entries-are S plan (recursion_of S plan) drafts e))
