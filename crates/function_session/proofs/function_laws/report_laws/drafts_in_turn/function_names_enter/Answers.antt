use Rattle.function_session.proofs.function_laws.report_laws.drafts_in_turn.FunctionNames.{names-enter}
use Rattle.function_session.proofs.function_laws.report_laws.drafts_in_turn.function_names_enter.Goals as goal

pub returns : goal.returns
returns c = names-enter c.plan_is_of_function.ensures c.plan_is_planned.ensures
