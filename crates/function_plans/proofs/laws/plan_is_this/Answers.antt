use Rattle.function_plans.proofs.PlansMade.{plan-is}
use Rattle.function_plans.proofs.laws.plan_is_this.Goals as goal

pub returns : goal.returns
returns c = plan-is
