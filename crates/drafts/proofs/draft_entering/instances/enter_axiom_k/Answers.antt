use Rattle.drafts.proofs.draft_entering.Entered.{axiom_k-longer, same-longer}
use Rattle.drafts.proofs.draft_entering.instances.enter_axiom_k.Goals as goal

pub returns-in-Ok-clause-longer : goal.returns-in-Ok-clause-longer
returns-in-Ok-clause-longer c =
    axiom_k-longer c.args.sig.now c.axiom_k.new.sig c.args.i c.args.m c.args.units.now.left c.in-Ok.field-0 c.axiom_k.new.units.left c.in-Ok.ensures.answer

pub returns-in-Err-clause-longer : goal.returns-in-Err-clause-longer
returns-in-Err-clause-longer c = same-longer c.args.sig.now c.axiom_k.new.sig c.in-Err.ensures.err
