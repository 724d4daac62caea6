-- The entries of a function's plan are there once they have entered.
use Rattle.std.specs.Prelude.{◌≡◌, ℕ, true, IfOk}
use Rattle.theory.specs.Signatures.{Signature}
use Rattle.theory.specs.WellFormed.{IsWellFormed}
use Rattle.drafts.specs.draft_checks.Checks.{unmarked}
use Rattle.function_session.specs.plan_laws.Conditions.{HasLevel}
use Rattle.clause_reports.specs.elaboration.Functions.{enter_plan}
use Rattle.family_check.specs.Scopes.{HasPrelude}
use Rattle.function_session.specs.function_lines.Conditions.{HasEntries}
use Rattle.function_session.specs.function_laws.report_laws.plan_drafts.Laws.{IsPlanFor}
use Rattle.resolve.specs.Functions.{Function}
use Rattle.tree_translation.specs.Plans.{Plan}

-- Once the entries of a resolved function have entered, the signature meets the conditions of the reports of its clauses. The signature
-- before is well formed, begins with the prelude and has no mark in a family's or constructor's name.
abbrev pub PlanHasEntries : Type 0
PlanHasEntries =
    (S : Signature) (f : Function) (plan : Plan) (left : ℕ) (h : IsPlanFor S f plan) → HasLevel S f h.level → IsWellFormed S → HasPrelude S →
    unmarked S ≡ true → IfOk (enter_plan S plan left).0 (HasEntries plan)
