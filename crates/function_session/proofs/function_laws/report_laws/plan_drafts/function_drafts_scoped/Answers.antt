use Rattle.function_session.proofs.function_laws.report_laws.plan_drafts.FunctionDrafts.{drafts-scoped}
use Rattle.function_session.proofs.function_laws.report_laws.plan_drafts.function_drafts_scoped.Goals as goal

pub returns : goal.returns
returns c = drafts-scoped c.plan_is_of_function.ensures c.plan_is_planned.ensures c.drafts_scoped.ensures
