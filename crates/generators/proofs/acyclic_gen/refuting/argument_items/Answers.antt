use Rattle.std.proofs.Common.{◌≤◌, ◌++◌, [], ◌∷◌, Ok, length, map, sym, subst, arith}
use Rattle.core_terms.specs.Answers.{IsUnforeseen, Gives}
use Rattle.core_terms.proofs.Answers.{stands-has}
use Rattle.core_sig.specs.Shapes.{argument_shape}
use Rattle.tele_eq.specs.Items.{AreSmall, items_of}
use Rattle.generators.specs.acyclic_gen.Pushing as spec
use Rattle.generators.proofs.acyclic_gen.SmallItems.{small-items, length-items, few-answer}
use Rattle.generators.proofs.acyclic_gen.refuting.argument_items.Goals as goal

pub returns-clause-few : goal.returns-clause-few
returns-clause-few c =
    let own = map argument_shape c.args.own.now in
    let meant = spec.argument_items c.args.q c.args.push own c.args.depth in
    few-answer c.placed_items.result
    (stands-has IsUnforeseen (λ e. e) items_of (λ X. length X ≤ 1000) c.placed_items.result (Ok meant)
    (subst (λ made. Gives items_of c.placed_items.result (Ok (items_of made ++ meant))) c.new.ensures c.placed_items.ensures)
    (subst (λ k. k ≤ 1000) (sym (length-items ((0, c.args.q.params) ∷ (c.args.depth, c.args.push.count) ∷ []) c.args.q.params c.args.depth own)) c.requires.own.few))

pub returns-clause-small : goal.returns-clause-small
returns-clause-small c =
    let own = map argument_shape c.args.own.now in
    let meant = spec.argument_items c.args.q c.args.push own c.args.depth in
    let few = c.requires.own.few in
    let depth = c.requires.depth in
    stands-has IsUnforeseen (λ e. e) items_of AreSmall c.placed_items.result (Ok meant)
    (subst (λ made. Gives items_of c.placed_items.result (Ok (items_of made ++ meant))) c.new.ensures c.placed_items.ensures)
    (small-items ((0, c.args.q.params) ∷ (c.args.depth, c.args.push.count) ∷ []) c.args.q.params c.args.depth own c.requires.own.low (omega arith))
