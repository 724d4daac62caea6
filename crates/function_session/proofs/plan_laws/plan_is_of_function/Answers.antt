use Rattle.function_session.proofs.plan_laws.Planned.{plan-of_function}
use Rattle.function_session.proofs.plan_laws.plan_is_of_function.Goals as goal

pub returns : goal.returns
returns c = plan-of_function
