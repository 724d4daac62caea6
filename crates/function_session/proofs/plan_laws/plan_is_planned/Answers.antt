use Rattle.function_session.proofs.plan_laws.Planned.{plan-planned}
use Rattle.function_session.proofs.plan_laws.plan_is_planned.Goals as goal

pub returns : goal.returns
returns c = plan-planned
