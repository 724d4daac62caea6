-- The lines of a function, and of a declaration.
use Rattle.std.proofs.Common.{◌≡◌, ℕ, [], Ok, sym, subst as transport, arith}
use Rattle.theory.specs.Signatures.{Definition, Signature}
use Rattle.theory.specs.SignatureScopes.{HasEntries}
use Rattle.theory.specs.WellFormed.{IsWellFormed, pushed}
use Rattle.core_terms.proofs.Answers.{Answers, and_next-has}
use Rattle.kernel_check.specs.Checking.{infer_sort_of}
use Rattle.kernel_reduce.specs.Reduction.{nesting}
use Rattle.surface_syntax.specs.Trees as surf
use Rattle.elab_session.proofs.Resolved.{prelude-stays}
use Rattle.elab_session.specs.Declaring.{accepted_as}
use Rattle.tree_translation.specs.Plans.{Plan}
use Rattle.clause_reports.proofs.Keeping.{Any, any, Grows, grows_on, weaker}
use Rattle.clause_reports.specs.elaboration.Functions.{Lines, enter_plan, function_level, function_of, planned_of, report_parts}
use Rattle.clause_reports.specs.elaboration.Refusals.{Elaborating, OfType, granted}
use Rattle.family_check.specs.Scopes.{HasPrelude}
use Rattle.function_session.proofs.function_lines.Provisional.{provisional-over}
use Rattle.function_session.specs.function_lines.Conditions.{IsFunctionOver}
use Rattle.function_session.proofs.Keeping.{function-has}
use Rattle.function_session.proofs.OwnEntry.{HasOwn, plan-enters}
use Rattle.function_session.proofs.Planned.{function-planned}
use Rattle.function_session.proofs.Written.{function-scoped, itself}
use Rattle.function_session.specs.Elaborating.{with_lines}
use Rattle.function_session.specs.Evidence.{references_from}
use Rattle.resolve.specs.Functions.{Function}
use Rattle.elim.specs.headline.line_laws.Laws.{DeclarationReports, FunctionReports, HasReports, HasReportedLines}
use Rattle.elim.proofs.headline.line_laws.PlanWalks.{IsPlanScoped, plan-scoped}
use Rattle.elim.proofs.headline.line_laws.Reports.{AreReports, IsBase, lines-from, parts-report}
use Rattle.elim.specs.written_functions.Clauses.{with_own}
use Rattle.elim.proofs.written_functions.Functions.{pushed-longer}

grown : (S T : Signature) (f : Function) (plan : Plan) → IsPlanScoped S f plan → HasOwn S plan.name plan.type T → Grows S T
grown S T f plan p h =
    grows_on S h.before T h.longer
    (grows_on h.before (pushed h.before (Definition plan.name plan.type h.body)) T h.enters h.entered)

base-there : (S T : Signature) (f : Function) (plan : Plan) → IsPlanScoped S f plan → IsWellFormed S → HasPrelude S → HasOwn S plan.name plan.type T
    → IsBase plan T
base-there S T f plan p well first h = record {
  well = (grown S T f plan p h).keeps well first;
  prelude = prelude-stays S T first (grown S T f plan p h).prefix;
  low = omega (arith, p.base, pushed-longer S h.before T plan.name plan.type h.body h.longer h.entered);
}

-- the plan of a function that may spend so many units
record IsKnown (S : Signature) (f : Function) (fuel : ℕ) (plan : Plan) : Type 0 where
  scoped : IsPlanScoped S f plan
  planned : (planned_of S f fuel).0 ≡ Ok plan

plan-known : (S : Signature) (f : Function) (fuel : ℕ) → IsFunctionOver (with_own S f) f → Answers (IsKnown S f fuel) (planned_of S f fuel)
plan-known S f fuel over =
    let P = IsPlanScoped S f in
    let found = granted S OfType (infer_sort_of S nesting [] f.type fuel) in
    itself P (IsKnown S f fuel) (planned_of S f fuel).0
    (and_next-has Any P found _ (any found.0) (λ sort rest u.
    and_next-has Any P (function_level S sort, rest) _ (any (function_level S sort)) (λ level more v. plan-scoped S f level more over)))
    (λ plan p is. record { scoped = p; planned = is })

function-reports-over : (S : Signature) (f : Function) (fuel : ℕ) → IsWellFormed S → HasPrelude S → HasEntries S f.type → IsFunctionOver (with_own S f) f
    → Answers (HasReports S f fuel) (function_of S f fuel)
function-reports-over S f fuel well first entries over =
    let P = HasReports S f fuel in
    transport (λ (r : Elaborating Lines). Answers P r) (sym (function-planned S f fuel))
    (and_next-has (IsKnown S f fuel) P (planned_of S f fuel) _ (plan-known S f fuel over) (λ plan end k.
    let p = k.scoped in
    and_next-has (HasOwn S plan.name plan.type) P (enter_plan S plan end) _
    (plan-enters S plan end p.base (transport (HasEntries S) (sym p.type) entries)) (λ T last own.
    let g = grown S T f plan p own in
    weaker (AreReports T plan (references_from 0 plan.parts)) P (report_parts plan 0 plan.parts T last).0
    (λ l r. record {
      plan = plan;
      planned = k.planned;
      lines = lines-from S T l.signature plan (references_from 0 plan.parts) l.lines g.prefix r.evidence;
    })
    (parts-report S f plan p 0 plan.parts p.walks T last (base-there S T f plan p well first own)))))

pub function-reports : FunctionReports
function-reports S f fuel well first entries over = function-reports-over S f fuel well first entries over

pub declaration-reports : DeclarationReports
declaration-reports S fuel x ty cs ready =
    let P = HasReportedLines S fuel x ty cs in
    function-has P S fuel x ty cs (λ f is.
    let scoped = function-scoped S (surf.Fun x ty cs) f is in
    weaker (HasReports S f fuel) (λ (l : Lines). P (with_lines (accepted_as x.text l.signature) l.lines)) (function_of S f fuel).0
    (λ l h. record {
      given = f;
      resolved = is;
      plan = h.plan;
      planned = h.planned;
      lines = h.lines;
    })
    (function-reports-over S f fuel ready.well_formed ready.prelude scoped.type.scoped.entries
    (provisional-over S f ready scoped)))
