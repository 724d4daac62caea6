use Rattle.function_session.proofs.function_laws.report_laws.plan_drafts.FunctionDrafts.{entries-made}
use Rattle.function_session.proofs.function_laws.report_laws.plan_drafts.function_entries_made.Goals as goal

pub returns : goal.returns
returns c =
    entries-made c.plan_is_of_function.ensures c.plan_is_planned.ensures c.plan_stands_apart.ensures c.translate_is_exact.ensures
