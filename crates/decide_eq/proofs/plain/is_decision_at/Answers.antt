use Rattle.std.proofs.Common.{◌∙◌}
use Rattle.decide_eq.proofs.CodeFamilies.{decision-at}
use Rattle.decide_eq.proofs.plain.is_decision_at.Goals as goal

pub returns-in-Some : goal.returns-in-Some
returns-in-Some c =
    c.is_decision.ensures ∙ decision-at c.args.sig.now c.args.l c.args.n c.in-Some.e.now c.in-Some.ensures.kinds c.in-Some.ensures.family
