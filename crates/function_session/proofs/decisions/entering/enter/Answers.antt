use Rattle.std.proofs.Common.{Ok, Err, sym}
use Rattle.core_sig.specs.Drafts.{draft_of}
use Rattle.function_session.proofs.decisions.DraftAnswers.{drafts, family-enters, family-stops}
use Rattle.function_session.proofs.decisions.entering.enter.Goals as goal

pub returns-in-Ok-clause-answer : goal.returns-in-Ok-clause-answer
returns-in-Ok-clause-answer c =
    family-enters c.in-Ok.draft c.enter_draft.new.sig c.enter_draft.result c.args.sig.now c.args.fuel c.args.named.now c.args.known.now
    (drafts (Ok c.in-Ok.draft) c.args.sig.now c.args.named.now c.args.known.now c.requires.plain c.in-Ok.ensures.answer) c.enter_draft.ensures.answer

pub returns-in-Err-clause-answer : goal.returns-in-Err-clause-answer
returns-in-Err-clause-answer c =
    family-stops c.in-Err.stop c.stopped.result c.args.sig.now c.args.fuel c.args.named.now c.args.known.now
    (drafts (Err c.in-Err.stop) c.args.sig.now c.args.named.now c.args.known.now c.requires.plain c.in-Err.ensures.answer) c.stopped.ensures

pub enter_draft-requires-clause-draft : goal.enter_draft-requires-clause-draft
enter_draft-requires-clause-draft c =
    c.requires.enterable (draft_of c.in-Ok.draft)
    (sym (drafts (Ok c.in-Ok.draft) c.args.sig.now c.args.named.now c.args.known.now c.requires.plain c.in-Ok.ensures.answer))
