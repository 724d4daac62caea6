-- The names of the trees of a plan can be generated, and those of recursion.
use Rattle.std.proofs.Common.{◌≡◌, ℕ, ◌+◌, ◌≤◌, Option, Some, None, List, length, slice_get, All, refl, sym, ◌∙◌, subst as transport, arith}
use Rattle.theory.specs.Terms.{Const, Term}
use Rattle.theory.specs.Telescopes.{Telescope}
use Rattle.theory.specs.Signatures.{Signature}
use Rattle.theory.specs.SignatureScopes.{IsScoped, IsScopedTelescope}
use Rattle.theory.specs.WellFormed.{provisional}
use Rattle.unification.specs.ScopedStates.{IsReady}
use Rattle.case_trees.specs.Points.{start_at}
use Rattle.drafts.specs.draft_entering.Conditions.{Extends, IsGeneratedName}
use Rattle.drafts.proofs.draft_entering.Entered.{pushed-longer}
use Rattle.drafts.proofs.draft_entering.Longer.{generated-longer}
use Rattle.clause_reports.specs.elaboration.Functions.{plan_of}
use Rattle.clause_reports.specs.elaboration.Walking.{greatest_level}
use Rattle.entry_laws.proofs.order_scopes.OrderLengths.{order-counted}
use Rattle.entry_laws.proofs.order_scopes.OrderedScopes.{length-ordered, variables-scoped}
use Rattle.resolve.specs.Functions.{Function}
use Rattle.tree_translation.specs.structural_rec.Uses.{Use}
use Rattle.tree_translation.specs.Conditions.{IsPartOf, IsPlanned, with_function}
use Rattle.tree_translation.specs.Entries.{helper_node, ordered_variables, step_node}
use Rattle.tree_translation.specs.Naming.{below_name, rec_name}
use Rattle.tree_translation.specs.Plans.{Part, Plan, own_part}
use Rattle.tree_translation.specs.Recursion.{Recursion, order_of, ordered_telescope, ordered_term, recursion_of}
use Rattle.tree_translation.specs.Splits.{Node}
use Rattle.tree_translation.specs.TreeTerms.{tree_names}
use Rattle.tree_translation.proofs.LevelLists.{length-levels}
use Rattle.exact_laws.proofs.translation_laws.FunctionTrees.{function-same}
use Rattle.exact_laws.proofs.translation_laws.SameFamilies.{tree-names-same}
use Rattle.entry_laws.proofs.replay_laws.TreeNodes.{IsNodeOver}
use Rattle.entry_laws.proofs.node_roots.RootNodes.{helper_node-over, step_node-over}
use Rattle.entry_laws.proofs.OnlyConstants.{Each, each-weaker}
use Rattle.entry_laws.proofs.OnlyEntries.{own_node, recursion-entry}
use Rattle.entry_laws.specs.draft_scopes.Laws.{IsOrdered}
use Rattle.entry_laws.proofs.draft_scopes.FunctionSignatures.{part-tree}
use Rattle.exact_laws.proofs.step_scopes.PlanOrders.{order-there, plan-ordered}
use Rattle.function_session.specs.plan_laws.Laws.{IsPlanOf, PlanIsOfFunction, PlanIsPlanned}
use Rattle.function_session.proofs.plan_laws.Answering.{if-ok}
use Rattle.function_session.specs.function_laws.report_laws.plan_drafts.Laws.{IsPlanFor}
use Rattle.function_session.specs.plan_laws.Conditions.{HasLevel}
use Rattle.function_session.proofs.plan_laws.FamilyLevels.{level-low}
use Rattle.entry_laws.proofs.GrowingDrafts.{CanBeMade}
use Rattle.exact_laws.proofs.own_scopes.PlainFunctions.{own-plain}
use Rattle.exact_laws.proofs.step_scopes.AllDrafts.{step-own}
use Rattle.function_session.proofs.function_laws.report_laws.drafts_in_turn.PartLevels.{part-low, plan-low}
use Rattle.function_session.specs.function_lines.Conditions.{ArePartsLow}
use Rattle.function_session.proofs.function_laws.report_laws.drafts_in_turn.RunNames.{IsFitting}
use Rattle.function_session.proofs.plan_laws.EnteredNames.{can-recur}
use Rattle.function_session.proofs.plan_laws.PlanLevels.{position-low}
use Rattle.function_session.proofs.function_laws.report_laws.drafts_in_turn.TreeNames.{tree-fits}

-- a name that is generated with the function is generated without it
without-function : (S : Signature) (plan : Plan) (name : List ℕ) → IsGeneratedName (with_function S plan) name → IsGeneratedName S name
without-function S plan name (g, is) =
    let more : Extends S (with_function S plan) = pushed-longer S (with_function S plan) plan.name plan.type (Const (length S.entries)) refl in
    (g, sym (generated-longer S (with_function S plan) more name) ∙ is)

part-names : (S : Signature) (plan : Plan) (uses : List Use) (at : ℕ) (part : Part) (context : Telescope) (goal : Term) (terms : List Term) (node : Node)
    → IsReady (with_function S plan) → IsPartOf S plan uses at part context goal terms → IsScopedTelescope S 0 context → IsScoped S (length context) goal
    → All (IsScoped S (length context)) terms → IsNodeOver node context → IsFitting part.level
    → Each (IsGeneratedName S) (tree_names S part.level part.tree node)
part-names S plan uses at part context goal terms node ready is hc hg ht over fits =
    let F = with_function S plan in
    let stands = part-tree S plan uses at part context goal terms ready is hc hg ht in
    transport (Each (IsGeneratedName S)) (sym (tree-names-same S F (function-same S plan) part.level part.tree node))
    (each-weaker (tree_names F part.level part.tree node) (λ name h. without-function S plan name h)
    (tree-fits F ready part.level fits part.tree (start_at context goal terms) node stands.stands stands.scoped over))

-- ---- the function's own part

-- ---- all of them

low-fits : (L : ℕ) → L ≤ greatest_level → IsFitting L
low-fits L low = omega (arith, low)

module _ (S : Signature) (plan : Plan) (planned : IsPlanned S plan) (ready : IsReady (with_function S plan))
    (own_low : (own_part plan).level ≤ greatest_level)
    (helpers_low : (k : ℕ) (part : Part) → slice_get plan.parts (k + 1) ≡ Some part → part.level ≤ greatest_level) where
  own-names : recursion_of S plan ≡ None → Each (IsGeneratedName S) (tree_names S (own_part plan).level (own_part plan).tree (own_node plan))
  own-names none =
      let part = own_part plan in
      let n = length part.tele in
      let order = order_of n None in
      let is = own-plain S plan planned.uses none planned.own in
      let long : length order ≡ n = length-levels 0 n in
      let root = helper_node-over plan None part (λ name. plan.base) in
      part-names S plan planned.uses 0 part part.tele part.goal (ordered_variables order n) (own_node plan) ready is is.context_scoped is.goal_scoped
      (variables-scoped S order n (omega arith)) (record { is_seen = root.is_seen; hidden = root.hidden }) (low-fits part.level own_low)

  step-names : (r : Recursion) → recursion_of S plan ≡ Some r
      → Each (IsGeneratedName S) (tree_names S (own_part plan).level (own_part plan).tree (step_node plan r (λ name. plan.base)))
  step-names r is =
      let part = own_part plan in
      let count = length part.tele in
      let order = order_of count (Some r) in
      let tele = ordered_telescope part.tele order in
      let whole = order-there S plan r is in
      let long : length tele ≡ count = length-ordered part.tele order whole in
      let counted : length order ≡ count = order-counted count order whole in
      let ordered : IsOrdered S plan r = plan-ordered S plan r planned is in
      let root = step_node-over plan r (λ name. plan.base) in
      part-names S plan planned.uses 0 part tele (ordered_term count order part.goal) (ordered_variables order count) (step_node plan r (λ name. plan.base)) ready
      (step-own S plan r planned is) ordered.telescope ordered.goal
      (transport (λ n. All (IsScoped S n) (ordered_variables order count)) (sym long) (variables-scoped S order count (omega (arith, counted))))
      (record { is_seen = root.is_seen; hidden = root.hidden }) (low-fits part.level own_low)

  helper-names : (o : Option Recursion) (k : ℕ) (part : Part) → slice_get plan.parts (k + 1) ≡ Some part
      → Each (IsGeneratedName S) (tree_names S part.level part.tree (helper_node plan o part (λ name. plan.base)))
  helper-names o k part at =
      let is = planned.helpers k part at in
      let root = helper_node-over plan o part (λ name. plan.base) in
      part-names S plan planned.uses (k + 1) part part.tele part.goal part.terms (helper_node plan o part (λ name. plan.base)) ready is is.context_scoped
      is.goal_scoped is.terms_scoped (record { is_seen = root.is_seen; hidden = root.hidden }) (low-fits part.level (helpers_low k part at))

  pub names-made : ((r : Recursion) → recursion_of S plan ≡ Some r → IsGeneratedName S (below_name r.family plan.level) × IsGeneratedName S (rec_name r.family plan.level))
      → CanBeMade (IsGeneratedName S) S plan
  names-made recursion = record {
    own = own-names;
    step = step-names;
    helpers = λ o k part is at. helper-names o k part at;
    recursion = recursion;
  }

-- of a function
pub function-names : PlanIsOfFunction → PlanIsPlanned → (S : Signature) (f : Function) (plan : Plan) (h : IsPlanFor S f plan) → HasLevel S f h.level
    → IsPlanned S plan × CanBeMade (IsGeneratedName S) S plan
function-names of plans S f plan h level =
    let is = if-ok (IsPlanOf S f h.level) (plan_of S f h.level h.left).0 plan h.is (of S f h.level h.left) in
    let planned = plans S f h.level h.left plan h.function h.low h.is in
    let ready : IsReady (with_function S plan) =
    transport (λ name. IsReady (provisional S name plan.type)) (sym is.name)
    (transport (λ type. IsReady (provisional S f.name type)) (sym is.type) h.function.with_function) in
    let top_level : h.level ≤ greatest_level = level-low S f h.level level in
    let parts : ArePartsLow plan.parts =
    if-ok (λ (plan : Plan). ArePartsLow plan.parts) (plan_of S f h.level h.left).0 plan h.is (plan-low S f h.level h.left top_level) in
    let same : plan.level ≡ h.level = is.level_is in
    let own : (own_part plan).level ≤ greatest_level = (let e = planned.level in omega (arith, e, same, top_level)) in
    let recursion : (r : Recursion) → recursion_of S plan ≡ Some r → IsGeneratedName S (below_name r.family plan.level) × IsGeneratedName S (rec_name r.family plan.level) =
    (λ r e.
    can-recur S plan.level r.admission.number r.family (omega (arith, same, top_level)) (position-low S f h.level plan level is planned r e)
    (recursion-entry S plan r e)) in
    (planned, names-made S plan planned ready own (λ k part at. part-low plan.parts (k + 1) part parts at) recursion)
