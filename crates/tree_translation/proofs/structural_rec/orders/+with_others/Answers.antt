use Rattle.std.proofs.Common.{Ok, subst}
use Rattle.core_terms.proofs.Builders.{ok_is}
use Rattle.core_terms.specs.Answers.{Gives}
use Rattle.tree_translation.proofs.structural_rec.RecursionOrders.{others-step}
use Rattle.tree_translation.proofs.structural_rec.orders.+with_others.Goals as goal

pub returns : goal.returns
returns t c =
    let one = c.in_ok-positions.ensures in
    let step = others-step c.args.first.now c.args.from c.args.count c.args.positions.items c.in_ok-positions.positions.items c.if-count-eq0.false (ok_is one) in
    subst (λ m. Gives (λ v. v.items) c.with_others.result (Ok m)) step c.with_others.ensures
