use Rattle.exact_laws.proofs.step_scopes.PlanOrders.{plan-ordered}
use Rattle.exact_laws.proofs.step_scopes.plan_ordered.Goals as goal

pub returns : goal.returns
returns c = plan-ordered
