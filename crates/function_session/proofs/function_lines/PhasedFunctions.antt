-- A function phase by phase is the function over the signature; and a plan that is made of it is its own.
use Rattle.std.proofs.Common.{◌≡◌, ℕ, ◌<◌, Bool, true, false, cond, [], Result, Ok, Err, refl, sym, ap, ◌∙◌, arith}
use Rattle.theory.specs.Signatures.{Signature}
use Rattle.theory.specs.Terms.{Term, top}
use Rattle.core_terms.specs.Answers.{and_next}
use Rattle.kernel_check.specs.Checking.{infer_sort_of}
use Rattle.kernel_reduce.specs.Reduction.{nesting}
use Rattle.resolve.specs.Functions.{Function}
use Rattle.tree_translation.specs.Plans.{Plan}
use Rattle.clause_reports.specs.elaboration.Functions.{Lines, enter_plan, function_level, function_of, plan_of, planned_of, report_parts}
use Rattle.clause_reports.specs.elaboration.Refusals.{Elaborating, OfType, Refusal, answers, granted}
use Rattle.drafts.specs.draft_checks.Checks.{unmarked}
use Rattle.drafts.proofs.draft_entering.Entered.{next-assoc}
use Rattle.function_session.specs.function_lines.Conditions.{IsOfFunction, IsWorkingOn}
use Rattle.function_session.specs.function_lines.Phases.{function_phases, level_of}
use Rattle.function_session.specs.function_lines.Opened.{deep, function_in, lines_closed, plan_in}
use Rattle.function_session.specs.plan_laws.Conditions.{HasLevel}
use Rattle.function_session.proofs.function_lines.Agreeing.{spent}
use Rattle.function_session.proofs.function_lines.Provisional.{provisional-over}
use Rattle.function_session.proofs.function_laws.report_laws.FunctionReports.{ready-of}
use Rattle.function_session.proofs.plan_laws.ExactPlans.{next-same}
use Rattle.function_session.proofs.plan_laws.FamilyLevels.{level-low}

-- ---- the phases

module _ (S : Signature) (f : Function) (fuel : ℕ) where
  -- what goes on with the plan
  spread : (go : Plan → ℕ → Elaborating Lines)
      → and_next (planned_of S f fuel) go
      ≡ and_next (granted S OfType (infer_sort_of S nesting [] f.type fuel)) (λ sort rest.
      and_next (answers (function_level S sort) rest) (λ level more. and_next (plan_of S f level more) go))
  spread go =
      next-assoc (granted S OfType (infer_sort_of S nesting [] f.type fuel))
      (λ sort rest. and_next (answers (function_level S sort) rest) (λ level more. plan_of S f level more)) go
      ∙ next-same (granted S OfType (infer_sort_of S nesting [] f.type fuel))
      (λ sort rest. and_next (and_next (answers (function_level S sort) rest) (λ level more. plan_of S f level more)) go)
      (λ sort rest. and_next (answers (function_level S sort) rest) (λ level more. and_next (plan_of S f level more) go))
      (λ sort rest is. next-assoc (answers (function_level S sort) rest) (λ level more. plan_of S f level more) go)

  phases-planned : function_phases S f fuel ≡ and_next (planned_of S f fuel) (λ plan more. plan_in plan S more)
  phases-planned =
      next-assoc (granted S OfType (infer_sort_of S nesting [] f.type fuel)) (λ sort rest. answers (function_level S sort) rest)
      (λ level rest. and_next (plan_of S f level rest) (λ plan more. plan_in plan S more))
      ∙ sym (spread (λ plan more. plan_in plan S more))

  pub phases-are : function_phases S f fuel ≡ function_in S f fuel
  phases-are = phases-planned ∙ by (unmarked S)
    where
      by : (b : Bool)
          → and_next (planned_of S f fuel) (λ plan more.
          cond b (and_next (enter_plan S plan more) (λ T rest. report_parts plan 0 plan.parts T rest)) (deep more))
          ≡ cond b (function_of S f fuel) (lines_closed S f fuel)
      by true = spread (λ plan more. and_next (enter_plan S plan more) (λ T rest. report_parts plan 0 plan.parts T rest))
      by false = refl

-- ---- the plan

no-answer : {A : Type 0} (a : A) (e : Refusal) → ◌≡◌ {A = Result A Refusal} (Ok a) (Err e) → ⊥
no-answer a e h = cc

-- the level of the function's type
level-has : (S : Signature) (f : Function) (fuel left level : ℕ) → spent (Ok level) left ≡ level_of S f.type fuel → HasLevel S f level
level-has S f fuel left level is = by (granted S OfType (infer_sort_of S nesting [] f.type fuel)) refl is
  where
    by : (r : Elaborating Term) → granted S OfType (infer_sort_of S nesting [] f.type fuel) ≡ r
        → spent (Ok level) left ≡ and_next r (λ sort rest. answers (function_level S sort) rest) → HasLevel S f level
    by (Ok sort, rest) at h = record {
      fuel = fuel;
      sort = sort;
      granted_sort = ap (λ (m : Elaborating Term). m.0) at;
      is_level = sym (ap (λ (m : Elaborating ℕ). m.0) h);
    }
    by (Err e, rest) at h = absurd (no-answer level e (ap (λ (m : Elaborating ℕ). m.0) h))

pub plan-of-function : (S : Signature) (f : Function) (fuel left level more : ℕ) (plan : Plan) → IsWorkingOn S f
    → spent (Ok level) left ≡ level_of S f.type fuel → spent (Ok plan) more ≡ plan_of S f level left → IsOfFunction S plan
plan-of-function S f fuel left level more plan h found made =
    let has = level-has S f fuel left level found in
    let low : level < top = (let most = level-low S f level has in omega (arith, most)) in (
      f,
      record {
        plan_for = record {
          function = record {
            ready = ready-of S h.ready.well_formed h.ready.prelude;
            with_function = (provisional-over S f h.ready h.resolved).ready;
            resolved = h.resolved;
          };
          level = level;
          low = low;
          left = left;
          is = sym (ap (λ (m : Elaborating Plan). m.0) made);
        };
        level = has;
      },
    )
