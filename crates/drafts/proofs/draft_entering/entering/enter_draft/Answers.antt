use Rattle.std.proofs.Common.{sym, ◌∙◌, subst}
use Rattle.core_sig.specs.Drafts.{draft_of}
use Rattle.drafts.specs.draft_entering.Conditions.{IsOpen}
use Rattle.drafts.proofs.draft_entering.AfterMentions.{whole-depth}
use Rattle.drafts.proofs.draft_entering.Entered.{same-longer}
use Rattle.drafts.proofs.draft_entering.Longer.{cut-back, open-longer}
use Rattle.drafts.proofs.draft_entering.entering.enter_draft.Goals as goal

pub returns-in-Ok-clause-answer : goal.returns-in-Ok-clause-answer
returns-in-Ok-clause-answer c = c.in-Ok.ensures.answer ∙ whole-depth c.args.sig.now (draft_of c.args.draft.now) c.args.units.now.left

pub returns-in-Err-clause-answer : goal.returns-in-Err-clause-answer
returns-in-Err-clause-answer c = λ other. c.in-Err.ensures.answer other ∙ whole-depth c.args.sig.now (draft_of c.args.draft.now) c.args.units.now.left

pub returns-in-Err-clause-err : goal.returns-in-Err-clause-err
returns-in-Err-clause-err c = c.truncate.ensures ∙ cut-back c.args.sig.now c.enter_at.new.sig _ c.in-Err.ensures.longer c.len-before.ensures

pub returns-in-Err-clause-longer : goal.returns-in-Err-clause-longer
returns-in-Err-clause-longer c =
    same-longer c.args.sig.now c.truncate.new.self (c.truncate.ensures ∙ cut-back c.args.sig.now c.enter_at.new.sig _ c.in-Err.ensures.longer c.len-before.ensures)

pub returns-in-Err-clause-ready : goal.returns-in-Err-clause-ready
returns-in-Err-clause-ready c =
    subst IsOpen (sym (c.truncate.ensures ∙ cut-back c.args.sig.now c.enter_at.new.sig _ c.in-Err.ensures.longer c.len-before.ensures)) c.requires.signature

pub returns-in-Ok-clause-ready : goal.returns-in-Ok-clause-ready
returns-in-Ok-clause-ready c = open-longer c.args.sig.now c.enter_at.new.sig c.in-Ok.ensures.longer c.in-Ok.ensures.settled c.requires.signature
