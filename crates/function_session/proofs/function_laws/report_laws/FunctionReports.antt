-- The entries of a resolved function are those that the reports of its clauses need.
use Rattle.std.proofs.Common.{◌≡◌, ℕ, ◌<◌, ◌≤◌, true, is_none, Option, Some, None, length, slice_get, Ok, IfOk, sym, ap, ap₂, ◌∙◌, subst as transport, arith}
use Rattle.std.proofs.lemmas.List.Elements.{All-weaker}
use Rattle.std.proofs.lemmas.Option.{slice_get-get_or}
use Rattle.std.proofs.lemmas.Bool.{or_right}
use Rattle.theory.specs.Terms.{top}
use Rattle.theory.specs.Prelude.{equality_family, prelude}
use Rattle.theory.specs.Signatures.{FamilyOf, IsPrefix, Signature, equality}
use Rattle.theory.specs.SignatureScopes.{IsScoped}
use Rattle.theory.specs.WellFormed.{IsWellFormed}
use Rattle.theory.proofs.Lists.{slice_get-longer}
use Rattle.theory.proofs.Pushing.{prefix_transitive}
use Rattle.theory.proofs.PreludeWellFormed.{equality_at}
use Rattle.theory.proofs.ScopedTerms.{HasNumbers, keeps-numbers, scoped-wider}
use Rattle.theory.proofs.Widening.{prefix_keeps}
use Rattle.core_terms.specs.Answers.{are_low}
use Rattle.core_terms.specs.CaseTrees.{Walk}
use Rattle.drafts.specs.draft_checks.Laws.{UnmarkedIsOpen}
use Rattle.clause_reports.specs.elaboration.Functions.{enter_plan, first_domains, plan_of}
use Rattle.clause_reports.specs.elaboration.Refusals.{Elaborating, owner_of}
use Rattle.clause_reports.specs.elaboration.Walking.{greatest_level}
use Rattle.drafts.proofs.entering_laws.OpenSignatures.{well_formed-settled}
use Rattle.family_check.specs.Scopes.{HasPrelude}
use Rattle.function_session.specs.function_lines.Conditions.{ArePartsLow, HasEntries}
use Rattle.function_session.specs.function_lines.Phases.{clause_reported, reference_of}
use Rattle.function_session.proofs.function_lines.Agreeing.{spent}
use Rattle.tree_translation.specs.Naming.{part_named}
use Rattle.tree_translation.specs.Plans.{Plan, no_part, own_part}
use Rattle.tree_translation.specs.Recursion.{Recursion, recursion_of}
use Rattle.unification.specs.ScopedStates.{IsReady}
use Rattle.clause_reports.specs.Conditions.{HasRecursion, IsEntered}
use Rattle.clause_reports.specs.Equations.{part_at, part_name}
use Rattle.clause_reports.specs.Generated.{all_name}
use Rattle.clause_reports.specs.Reports.{Reference, Reported, order_in, report_of}
use Rattle.clause_reports.proofs.Keeping.{Grows, weaker, prelude-on}
use Rattle.clause_reports.proofs.elaboration.Keeping.{no_report-has}
use Rattle.clause_reports.proofs.ReportKeeping.{GrowsBy, report-grows}
use Rattle.clause_equations.proofs.MadeEquations.{found-low}
use Rattle.function_session.specs.plan_laws.Laws.{IsPlanOf, PlanIsOfFunction, PlanIsPlanned}
use Rattle.function_session.proofs.plan_laws.Answering.{if-ok}
use Rattle.function_session.proofs.plan_laws.ExactPlans.{domains-low}
use Rattle.function_session.proofs.plan_laws.FamilyLevels.{level-low}
use Rattle.function_session.proofs.plan_laws.PlanLevels.{position-low}
use Rattle.function_session.proofs.plan_laws.Planned.{plan-of_function}
use Rattle.function_session.specs.function_laws.report_laws.plan_drafts.Laws.{IsPlanFor}
use Rattle.resolve.specs.Functions.{Function}
use Rattle.function_session.proofs.function_laws.report_laws.drafts_in_turn.PartLevels.{part-low, plan-low}
use Rattle.function_session.specs.function_laws.report_laws.Functions.{PlanHasEntries}
use Rattle.function_session.specs.function_laws.report_laws.Reportable.{IsReportable}
use Rattle.function_session.proofs.function_laws.report_laws.EnteredParts.{HasPlan, domains-are, plan-has}
use Rattle.function_session.proofs.function_laws.report_laws.LeafSites.{leaves-over, own-over}
use Rattle.function_session.proofs.plan_laws.NamedEntries.{defined-on}
use Rattle.function_session.proofs.function_laws.report_laws.OwnWalks.{own-walk}

pub ready-of : (S : Signature) → IsWellFormed S → HasPrelude S → IsReady S
ready-of S formed first = record {
  scoped = (well_formed-settled S formed).scoped;
  identities = λ i low. record {
    level = low;
    entry = ap (λ es. slice_get es (equality i)) first.entries
        ∙ slice_get-longer (prelude S.has_k).entries first.more (equality i) (FamilyOf (equality_family i)) (equality_at top i low);
  };
}

-- ---- longer signatures

recursion-on : (S T : Signature) (plan : Plan) → IsPrefix S T → (r : Option Recursion) → HasRecursion S plan r → HasRecursion T plan r
recursion-on S T plan more None h = tt
recursion-on S T plan more (Some r) h = (
  defined-on S T more _ h.0,
  (defined-on S T more _ h.1.0, λ some. defined-on S T more (all_name r.family plan.level) (h.1.1 some)),
)

entered-on : (before S T : Signature) (plan : Plan) → IsPrefix S T → IsEntered before S plan → IsEntered before T plan
entered-on before S T plan more h = record {
  planned = h.planned;
  prefix = prefix_transitive before S T h.prefix more;
  parts = λ k low. defined-on S T more (part_name plan k) (h.parts k low);
  recursion = recursion-on S T plan more (recursion_of before plan) h.recursion;
}

-- ---- clauses

pub entries-on : (plan : Plan) (T U : Signature) → HasEntries plan T → Grows T U → HasEntries plan U
entries-on plan T U h g = record {
  before = h.before;
  entered = entered-on h.before T U plan g.prefix h.entered;
  well_formed = g.keeps h.well_formed h.first;
  first = prelude-on T U g.prefix h.first;
  low = h.low;
  levels = h.levels;
}

pub reportable : (T : Signature) (plan : Plan) (c : Reference) → HasEntries plan T → c.part < length plan.parts
    → slice_get (part_at plan c.part).walks c.clause ≡ Some c.walk → IsReportable T plan c
reportable T plan c h inside own =
    let S = h.before in
    let later : HasNumbers S T = keeps-numbers (prefix_keeps h.entered.prefix) in
    let w = own-walk S plan h.entered.planned c.part inside c.clause c.walk own in
    let n = length c.walk.ctx in
    let low = or_right (is_none plan.position) (are_low (own_part plan).tele) h.low in
    let level : (part_at plan c.part).level ≤ greatest_level = part-low plan.parts c.part (part_at plan c.part) h.levels (slice_get-get_or plan.parts c.part no_part inside) in
    record {
      ready = ready-of T h.well_formed h.first;
      first = h.first;
      low = low;
      recursion = found-low T (own_part plan).tele plan.position low;
      fits = omega (arith, level);
      over = own-over S T plan h.entered c inside own;
      terms = All-weaker (IsScoped S n) (IsScoped T n) (λ t k. scoped-wider later k) c.walk.terms w.terms;
      substitution = All-weaker (IsScoped S n) (IsScoped T n) (λ t k. scoped-wider later k) c.walk.subst w.substitution;
      leaves = leaves-over S T plan h.entered c inside own (order_in T plan c.part);
    }

-- the entries are there after a report
pub reported-on : (S : Signature) (plan : Plan) (k number : ℕ) (w : Walk) (left : ℕ) (r : Reported) (rest : ℕ) → HasEntries plan S
    → spent (Ok r) rest ≡ clause_reported plan k number w S left → HasEntries plan r.signature
unfolding clause_reported
reported-on S plan k number w left r rest h is =
    let c = reference_of k number w in
    let owner = owner_of (part_named plan.name k) number in
    entries-on plan S r.signature h
    (transport (λ (m : Elaborating Reported). IfOk m.0 (GrowsBy S)) (sym is)
    (no_report-has (GrowsBy S) S owner (report_of S plan c left).0 (report-grows S plan c left)))

-- ---- the plan of a function

-- the types of the telescope are low
pub low-domains : (S : Signature) (f : Function) (plan : Plan) → IsPlanFor S f plan → are_low (first_domains plan.arity plan.type) ≡ true
low-domains S f plan h =
    let is = if-ok (IsPlanOf S f h.level) (plan_of S f h.level h.left).0 plan h.is (plan-of_function S f h.level h.left) in
    transport (λ n. are_low (first_domains n plan.type) ≡ true) (sym is.arity)
    (transport (λ type. are_low (first_domains f.arity type) ≡ true) (sym is.type) (domains-low f.arity f.type h.function.resolved.type.low))

pub plan-has_entries : PlanIsOfFunction → PlanIsPlanned → UnmarkedIsOpen → PlanHasEntries
plan-has_entries of plans opens S f plan left h level formed first marks =
    let is = if-ok (IsPlanOf S f h.level) (plan_of S f h.level h.left).0 plan h.is (of S f h.level h.left) in
    let planned = plans S f h.level h.left plan h.function h.low h.is in
    let top_level : h.level ≤ greatest_level = level-low S f h.level level in
    let levels : ArePartsLow plan.parts =
    if-ok (λ (plan : Plan). ArePartsLow plan.parts) (plan_of S f h.level h.left).0 plan h.is (plan-low S f h.level h.left top_level) in
    let same : plan.level ≡ h.level = is.level_is in
    let tele : first_domains f.arity f.type ≡ (own_part plan).tele =
    ap₂ first_domains (sym is.arity ∙ planned.arity) (sym is.type ∙ planned.type) ∙ domains-are (own_part plan).tele (own_part plan).goal in
    let low : are_low (own_part plan).tele ≡ true = transport (λ tele. are_low tele ≡ true) tele (domains-low f.arity f.type h.function.resolved.type.low) in
    weaker (HasPlan S plan) (HasEntries plan) (enter_plan S plan left).0
    (λ T has. record { before = S; entered = has.entered; well_formed = has.well_formed; first = has.first; low = low; levels = levels })
    (plan-has S plan planned formed first (opens S formed first marks) (omega (arith, same, top_level)) (position-low S f h.level plan level is planned) left)
