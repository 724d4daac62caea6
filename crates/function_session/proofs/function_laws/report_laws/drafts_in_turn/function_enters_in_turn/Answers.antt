use Rattle.function_session.proofs.function_laws.report_laws.drafts_in_turn.EnteringFunctions.{enters-in_turn}
use Rattle.function_session.proofs.function_laws.report_laws.drafts_in_turn.function_enters_in_turn.Goals as goal

pub returns : goal.returns
returns c =
    enters-in_turn c.function_names_enter.ensures c.function_drafts_tested.ensures c.entered_is_open.ensures c.unmarked_is_open.ensures
    c.enterable_may_enter.ensures
