use Rattle.std.proofs.Common.{[], ◌∷◌, Ok, length, arith, rules}
use Rattle.std.proofs.lemmas.List.{length-map}
use Rattle.core_terms.specs.Answers.{IsUnforeseen}
use Rattle.core_terms.proofs.Answers.{stands-has}
use Rattle.core_sig.specs.Shapes.{argument_shape, constructor_shape}
use Rattle.tele_eq.specs.Items.{AreSmall, items_of}
use Rattle.generators.specs.noconf_gen.Compared.{argument_items}
use Rattle.generators.proofs.noconf_gen.SmallTerms.{small-arguments, length-items, few-answer}
use Rattle.decide_eq.proofs.comparing.argument_items.Goals as goal

pub returns-clause-small : goal.returns-clause-small
returns-clause-small c =
    let shape = constructor_shape c.args.con.now in
    let count = length-map c.args.con.now.args argument_shape in
    stands-has IsUnforeseen (λ e. e) items_of AreSmall c.placed_items.result (Ok (argument_items c.args.params c.args.depth shape))
    (search rules) (small-arguments c.args.params c.args.depth shape c.requires.fits.arguments c.requires.fits.types c.requires.depth)

pub returns-clause-few : goal.returns-clause-few
returns-clause-few c =
    let shape = constructor_shape c.args.con.now in
    let count = length-map c.args.con.now.args argument_shape in
    few-answer c.placed_items.result (argument_items c.args.params c.args.depth shape) (search rules)
    (omega (arith, c.requires.fits.arguments, length-items ((0, c.args.params) ∷ (c.args.depth, length shape.arguments) ∷ []) c.args.params c.args.depth shape.arguments))
