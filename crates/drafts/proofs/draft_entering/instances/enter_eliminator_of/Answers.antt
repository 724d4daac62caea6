use Rattle.std.proofs.Common.{◌≡◌, subst}
use Rattle.theory.specs.Signatures.{EliminatorAt}
use Rattle.clause_reports.specs.Stops.{not_entered}
use Rattle.family_check.specs.Meanings as family
use Rattle.drafts.specs.draft_entering.Stops.{stop_of}
use Rattle.drafts.proofs.draft_entering.Entered.{instance-longer, same-longer, refused-signature, told-signature}
use Rattle.drafts.proofs.draft_entering.instances.enter_eliminator_of.Goals as goal

pub returns-in-Ok-clause-answer : goal.returns-in-Ok-clause-answer
returns-in-Ok-clause-answer c = λ f at.
    told-signature c.args.sig.now c.instance.new.sig (EliminatorAt c.args.n c.args.m) c.in-Ok.field-0 c.instance.new.units.left _ (c.in-Ok.ensures.answer f at)

pub returns-in-Ok-clause-longer : goal.returns-in-Ok-clause-longer
returns-in-Ok-clause-longer c =
    instance-longer c.args.sig.now c.instance.new.sig c.args.n c.requires.family.0 c.args.m c.args.units.now.left c.in-Ok.field-0 c.instance.new.units.left
    (c.in-Ok.ensures.answer c.requires.family.0 c.requires.family.1)

pub returns-in-Err-clause-answer : goal.returns-in-Err-clause-answer
returns-in-Err-clause-answer c = λ f at other.
    refused-signature c.args.sig.now (EliminatorAt c.args.n c.args.m) (family.stop_of c.in-Err.stop) (stop_of c.eliminator_denied.result) c.instance.new.units.left _
    (subst (λ T. stop_of c.eliminator_denied.result ≡ not_entered T (EliminatorAt c.args.n c.args.m) (family.stop_of c.in-Err.stop)) c.in-Err.ensures.err
    (c.eliminator_denied.ensures.answer other))
    (c.in-Err.ensures.answer f at (λ h. other (c.eliminator_denied.ensures.memory h)))

pub returns-in-Err-clause-longer : goal.returns-in-Err-clause-longer
returns-in-Err-clause-longer c = same-longer c.args.sig.now c.instance.new.sig c.in-Err.ensures.err
