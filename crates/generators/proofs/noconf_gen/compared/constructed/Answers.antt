use Rattle.std.proofs.Common.{◌≡◌, subst, sym, arith}
use Rattle.std.proofs.lemmas.Grind.{common_steps}
use Rattle.core_terms.specs.Meanings.{tele_of}
use Rattle.core_sig.specs.Shapes.{constructor_shape}
use Rattle.tele_eq.specs.Items.{AreSmallTerms}
use Rattle.generators.specs.noconf_gen.Compared.{constructed}
use Rattle.generators.proofs.noconf_gen.SmallTerms.{small-constructed}
use Rattle.generators.proofs.noconf_gen.compared.constructed.Goals as goal

pub returns-clause-small : goal.returns-clause-small
returns-clause-small c =
    let shape = constructor_shape c.args.con.now in
    let is : tele_of c.push.new.self ≡ constructed c.args.fam c.args.params c.args.indices c.args.number c.args.first shape c.args.depth = grind (arith, common_steps) in
    subst AreSmallTerms (sym is)
    (small-constructed c.args.fam c.args.params c.args.indices c.args.number c.args.first shape c.args.depth c.requires.fits (omega (arith, c.requires.depth)))
