use Rattle.function_session.proofs.function_laws.report_laws.plan_drafts.TestedDrafts.{drafts-tested}
use Rattle.function_session.proofs.function_laws.report_laws.plan_drafts.function_drafts_tested.Goals as goal

pub returns : goal.returns
returns c = drafts-tested c.plan_is_of_function.ensures c.plan_is_planned.ensures c.drafts_scoped.ensures
