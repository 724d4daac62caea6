use Rattle.function_plans.proofs.PlansMade.{plan-answers}
use Rattle.function_plans.proofs.laws.plan_answers.Goals as goal

pub returns : goal.returns
returns c = plan-answers
