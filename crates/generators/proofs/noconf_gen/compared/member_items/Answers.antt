use Rattle.std.proofs.Common.{◌≡◌, length, subst, sym, arith, ap}
use Rattle.std.proofs.lemmas.Grind.{common_steps}
use Rattle.std.proofs.lemmas.List.{length-map}
use Rattle.core_sig.specs.Shapes.{shape_of}
use Rattle.tele_eq.specs.Items.{AreSmall, items_of, item_of}
use Rattle.generators.specs.noconf_gen.Compared.{member_items}
use Rattle.generators.proofs.noconf_gen.SmallTerms.{small-members, length-members}
use Rattle.generators.proofs.noconf_gen.compared.member_items.Goals as goal

pub returns-clause-small : goal.returns-clause-small
returns-clause-small c =
    let is : items_of c.push.new.self ≡ member_items c.args.fam (shape_of c.args.f.now) c.args.depth = grind (arith, common_steps) in
    subst AreSmall (sym is) (small-members c.args.fam (shape_of c.args.f.now) c.args.depth c.requires.fits c.requires.depth)

pub returns-clause-few : goal.returns-clause-few
returns-clause-few c =
    let shape = shape_of c.args.f.now in
    let is : items_of c.push.new.self ≡ member_items c.args.fam shape c.args.depth = grind (arith, common_steps) in
    omega (arith, length-map c.push.new.self item_of, ap length is, length-members c.args.fam shape c.args.depth, c.requires.fits.indices)
