use Rattle.function_session.proofs.function_laws.report_laws.FunctionReports.{plan-has_entries}
use Rattle.function_session.proofs.function_laws.report_laws.plan_has_entries.Goals as goal

pub returns : goal.returns
returns c = plan-has_entries c.plan_is_of_function.ensures c.plan_is_planned.ensures c.unmarked_is_open.ensures
