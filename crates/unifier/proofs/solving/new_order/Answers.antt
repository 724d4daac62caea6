use Rattle.std.proofs.Common.{◌<◌, ◌∷◌, ◌++◌, Ok, length, refl}
use Rattle.core_terms.specs.Answers.{IsUnforeseen}
use Rattle.core_terms.proofs.Answers.{stands-has}
use Rattle.tele_eq.specs.Items.{each_position}
use Rattle.unification.specs.Occurrences.{without}
use Rattle.problems.specs.Conditions.{AreBelow}
use Rattle.unifier.proofs.Orders.{code-fewer, code-below}
use Rattle.unifier.proofs.solving.new_order.Goals as goal

pub returns-clause-fewer : goal.returns-clause-fewer
returns-clause-fewer c =
    let order = without (c.args.p ∷ c.args.dependants.now) (each_position (λ j. j) 0 (length c.args.ctx.now)) ++ c.args.dependants.now in
    stands-has IsUnforeseen (λ e. e) (λ v. v.items) (λ levels. length levels < length c.args.ctx.now) c.order_without.result (Ok order)
    c.order_without.ensures (code-fewer c.args.ctx.now c.args.p c.args.dependants.now order c.requires.p c.requires.dependants refl)

pub returns-clause-below : goal.returns-clause-below
returns-clause-below c =
    let order = without (c.args.p ∷ c.args.dependants.now) (each_position (λ j. j) 0 (length c.args.ctx.now)) ++ c.args.dependants.now in
    stands-has IsUnforeseen (λ e. e) (λ v. v.items) (AreBelow (length c.args.ctx.now)) c.order_without.result (Ok order)
    c.order_without.ensures (code-below c.args.ctx.now c.args.p c.args.dependants.now order c.requires.p c.requires.dependants refl)
