use Rattle.std.proofs.Common.{sym, ◌∙◌, subst as transport}
use Rattle.theory.specs.Signatures.{IsPrefix}
use Rattle.theory.proofs.Pushing.{prefix_reflexive}
use Rattle.elab_session.specs.Sessions.{IsReady}
use Rattle.resolve.specs.PatternMeanings.{fun_of}
use Rattle.drafts.proofs.draft_entering.Longer.{cut-back, extends-prefix}
use Rattle.clause_reports.proofs.elaboration.Keeping.{function-keeps}
use Rattle.function_session.proofs.Keeping.{opened-has}
use Rattle.function_session.proofs.function_lines.PhasedFunctions.{phases-are}
use Rattle.function_session.proofs.function_lines.Results.{Kept, longer-ready, told}
use Rattle.function_session.proofs.function_lines.functions.function.Goals as goal

pub returns-in-Ok-clause-answer : goal.returns-in-Ok-clause-answer
returns-in-Ok-clause-answer c =
    c.in-Ok.ensures.answer ∙ phases-are c.args.sig.now (fun_of c.args.f.now) c.args.units.now.left

pub returns-in-Err-clause-answer : goal.returns-in-Err-clause-answer
returns-in-Err-clause-answer c = λ other.
    c.in-Err.ensures.answer other ∙ phases-are c.args.sig.now (fun_of c.args.f.now) c.args.units.now.left

pub returns-in-Ok-clause-ready : goal.returns-in-Ok-clause-ready
returns-in-Ok-clause-ready c =
    let S = c.args.sig.now in
    let ready = c.requires.ready in
    longer-ready S c.elaborate.new.sig ready (extends-prefix S c.elaborate.new.sig c.in-Ok.ensures.longer)
    (told S _ _ _ (c.in-Ok.ensures.answer ∙ phases-are S (fun_of c.args.f.now) c.args.units.now.left)
    (opened-has (Kept S) S (fun_of c.args.f.now) c.args.units.now.left (λ marks.
    function-keeps S (fun_of c.args.f.now) c.args.units.now.left ready.well_formed ready.prelude)))

pub returns-in-Err-clause-longer : goal.returns-in-Err-clause-longer
returns-in-Err-clause-longer c =
    transport (IsPrefix c.args.sig.now) (sym (c.truncate.ensures ∙ cut-back c.args.sig.now c.elaborate.new.sig _ c.in-Err.ensures.longer c.len-before.ensures))
    (prefix_reflexive c.args.sig.now)

pub returns-in-Err-clause-ready : goal.returns-in-Err-clause-ready
returns-in-Err-clause-ready c =
    transport IsReady (sym (c.truncate.ensures ∙ cut-back c.args.sig.now c.elaborate.new.sig _ c.in-Err.ensures.longer c.len-before.ensures))
    c.requires.ready
