use Rattle.std.proofs.Common.{◌≡◌, Ok, Err, subst as transport}
use Rattle.core_sig.specs.Drafts.{draft_of}
use Rattle.function_session.specs.decisions.Entering.{draft_entered}
use Rattle.function_session.proofs.decisions.DraftAnswers.{draft-enters, draft-refused}
use Rattle.function_session.proofs.decisions.entering.enter_draft.Goals as goal

pub returns-in-Ok-clause-answer : goal.returns-in-Ok-clause-answer
returns-in-Ok-clause-answer c =
    transport (λ name. Ok c.enter_opened.new.sig ≡ draft_entered c.args.sig.now c.args.fuel name (draft_of c.args.draft.now)) c.as_slice.ensures
    (draft-enters c.enter_opened.new.sig c.args.fuel _ _ c.in-Ok.ensures.answer)

pub returns-in-Err-clause-answer : goal.returns-in-Err-clause-answer
returns-in-Err-clause-answer c other =
    transport (λ name. Err c.refused_function.result ≡ draft_entered c.args.sig.now c.args.fuel name (draft_of c.args.draft.now)) c.as_slice.ensures
    (draft-refused c.args.fuel _ c.in-Err.refusal c.refused_function.result _ c.in-Err.ensures.answer c.refused_function.ensures other)
