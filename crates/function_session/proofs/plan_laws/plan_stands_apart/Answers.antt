use Rattle.function_session.proofs.plan_laws.CallsApart.{plan-stands-apart}
use Rattle.function_session.proofs.plan_laws.plan_stands_apart.Goals as goal

pub returns : goal.returns
returns c = plan-stands-apart
