-- The plan that the code makes is the plan that is meant.
use Rattle.std.specs.Prelude.{◌≡◌, ℕ, ◌&&◌, true, List, Ok}
use Rattle.theory.specs.Terms.{Term}
use Rattle.core_terms.specs.Answers.{are_low}
use Rattle.clause_reports.specs.elaboration.Refusals.{answers}
use Rattle.clause_reports.specs.elaboration.Walking.{Session, Walked}
use Rattle.tree_translation.specs.structural_rec.Uses.{Use}
use Rattle.tree_translation.specs.Plans.{Plan}
use Rattle.function_plans.specs.CodePlans.{are_low_uses, plan_after, plan_made}

-- a plan that is made is the one that is meant
abbrev pub PlanAnswers : Type 0
PlanAnswers =
    (s : Session) (type : Term) (arity level : ℕ) (w : Walked) (helpers : List Walked) (uses : List Use) (left rest : ℕ) (plan : Plan) →
    plan_made s type arity level w helpers uses left ≡ answers (Ok plan) rest → plan_after s type arity level w helpers uses left ≡ answers (Ok plan) rest

-- Refusals are those that are meant too, where the telescope and the uses of the function are low.
abbrev pub PlanIsThis : Type 0
PlanIsThis =
    (s : Session) (type : Term) (arity level : ℕ) (w : Walked) (helpers : List Walked) (uses : List Use) (left : ℕ) →
    (are_low w.part.tele && are_low_uses uses) ≡ true →
    plan_made s type arity level w helpers uses left ≡ plan_after s type arity level w helpers uses left
