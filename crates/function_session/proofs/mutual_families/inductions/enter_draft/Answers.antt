use Rattle.core_sig.specs.Drafts.{draft_of}
use Rattle.drafts.proofs.draft_entering.Longer.{extends-prefix}
use Rattle.function_session.proofs.mutual_families.CallAnswers.{draft-enters, draft-ready, draft-refused}
use Rattle.function_session.proofs.mutual_families.inductions.enter_draft.Goals as goal

pub returns-in-Ok-clause-answer : goal.returns-in-Ok-clause-answer
returns-in-Ok-clause-answer c = draft-enters c.enter_opened.new.sig c.args.fuel _ _ c.in-Ok.ensures.answer

pub returns-in-Err-clause-answer : goal.returns-in-Err-clause-answer
returns-in-Err-clause-answer c =
    draft-refused c.args.fuel _ c.in-Err.refusal c.refused_function.result _ c.in-Err.ensures.answer c.refused_function.ensures

pub returns-in-Ok-clause-longer : goal.returns-in-Ok-clause-longer
returns-in-Ok-clause-longer c = extends-prefix c.args.sig.now c.enter_opened.new.sig c.in-Ok.ensures.longer

pub returns-in-Err-clause-longer : goal.returns-in-Err-clause-longer
returns-in-Err-clause-longer c = extends-prefix c.args.sig.now c.enter_opened.new.sig c.in-Err.ensures.longer

pub returns-in-Ok-clause-ready : goal.returns-in-Ok-clause-ready
returns-in-Ok-clause-ready c =
    draft-ready c.args.sig.now c.enter_opened.new.sig c.args.name.now (draft_of c.args.draft.now) c.args.units.now.left _ c.requires.ready c.in-Ok.ensures.answer
