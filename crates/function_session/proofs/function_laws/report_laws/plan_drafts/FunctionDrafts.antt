-- The plan of a resolved function is kept by what its entries ask.
use Rattle.std.proofs.Common.{sym, subst as transport}
use Rattle.theory.specs.Signatures.{Signature}
use Rattle.theory.specs.WellFormed.{provisional}
use Rattle.exact_laws.specs.deep_laws.Laws.{TranslateIsExact}
use Rattle.clause_reports.specs.elaboration.Functions.{plan_of}
use Rattle.resolve.specs.Functions.{Function}
use Rattle.exact_laws.specs.step_scopes.Laws.{DraftsScopedAfterPrelude}
use Rattle.tree_translation.specs.Conditions.{IsPlanned, with_function}
use Rattle.tree_translation.specs.Plans.{Plan}
use Rattle.unification.specs.ScopedStates.{IsReady}
use Rattle.function_session.specs.plan_laws.Laws.{IsPlanOf, PlanIsOfFunction, PlanIsPlanned, PlanStandsApart}
use Rattle.function_session.proofs.plan_laws.Answering.{if-ok}
use Rattle.function_session.specs.function_laws.report_laws.plan_drafts.Laws.{FunctionDraftsScoped, FunctionEntriesMade, IsPlanFor}

plan-ready : PlanIsOfFunction → (S : Signature) (f : Function) (plan : Plan) → IsPlanFor S f plan → IsReady (with_function S plan)
plan-ready of S f plan h =
    let is = if-ok (IsPlanOf S f h.level) (plan_of S f h.level h.left).0 plan h.is (of S f h.level h.left) in
    transport (λ name. IsReady (provisional S name plan.type)) (sym is.name)
    (transport (λ type. IsReady (provisional S f.name type)) (sym is.type) h.function.with_function)

plan-planned : PlanIsPlanned → (S : Signature) (f : Function) (plan : Plan) → IsPlanFor S f plan → IsPlanned S plan
plan-planned planned S f plan h = planned S f h.level h.left plan h.function h.low h.is

pub drafts-scoped : PlanIsOfFunction → PlanIsPlanned → DraftsScopedAfterPrelude → FunctionDraftsScoped
drafts-scoped of planned scoped = λ S f plan drafts h first e.
    scoped S plan drafts (record { ready = plan-ready of S f plan h; first = first; planned = plan-planned planned S f plan h }) e

pub entries-made : PlanIsOfFunction → PlanIsPlanned → PlanStandsApart → TranslateIsExact → FunctionEntriesMade
entries-made of planned apart exact = λ S f plan h.
    exact S plan (record {
      ready = plan-ready of S f plan h;
      planned = plan-planned planned S f plan h;
      apart = apart S f h.level h.left plan h.function h.is h.low;
    })
