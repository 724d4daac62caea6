use Rattle.std.proofs.Common.{sym, ◌∙◌, subst as transport}
use Rattle.clause_reports.specs.DraftEntering.{Names, enter_mention, enter_needed}
use Rattle.drafts.specs.draft_entering.Conditions.{IsOpen}
use Rattle.drafts.specs.draft_entering.Stops.{stop_of}
use Rattle.drafts.proofs.draft_entering.Entered.{same-longer}
use Rattle.drafts.proofs.draft_entering.Longer.{cut-back}
use Rattle.clause_reports.specs.elaboration.Refusals.{owner_of}
use Rattle.function_checks.specs.function_refusals.RefusalMeanings.{refusal_of}
use Rattle.function_session.proofs.function_lines.Results.{refused-after}
use Rattle.function_session.proofs.function_lines.entering.enter_name.Goals as goal

pub returns-in-Err-clause-answer : goal.returns-in-Err-clause-answer
returns-in-Err-clause-answer c = λ other.
    refused-after c.args.sig.now c.truncate.new.self (owner_of c.args.function.now 0) (stop_of c.in-Err.stop) (refusal_of c.refused.result)
    c.enter_named.new.units.left (enter_mention enter_needed c.args.sig.now (Names c.args.values.now) c.args.units.now.left)
    (c.truncate.ensures ∙ cut-back c.args.sig.now c.enter_named.new.sig _ c.in-Err.ensures.longer c.len-before.ensures)
    (c.refused.ensures.answer other) (c.in-Err.ensures.answer (λ h. other (c.refused.ensures.memory h)))

pub returns-in-Err-clause-longer : goal.returns-in-Err-clause-longer
returns-in-Err-clause-longer c =
    same-longer c.args.sig.now c.truncate.new.self
    (c.truncate.ensures ∙ cut-back c.args.sig.now c.enter_named.new.sig _ c.in-Err.ensures.longer c.len-before.ensures)

pub returns-in-Err-clause-ready : goal.returns-in-Err-clause-ready
returns-in-Err-clause-ready c =
    transport IsOpen (sym (c.truncate.ensures ∙ cut-back c.args.sig.now c.enter_named.new.sig _ c.in-Err.ensures.longer c.len-before.ensures))
    c.requires
