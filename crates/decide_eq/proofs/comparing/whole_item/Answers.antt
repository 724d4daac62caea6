use Rattle.std.proofs.Common.{◌≡◌, subst, sym, arith}
use Rattle.std.proofs.lemmas.Grind.{common_steps}
use Rattle.tele_eq.specs.Items.{AreSmall, items_of}
use Rattle.decide_eq.specs.Comparisons.{whole_item}
use Rattle.decide_eq.proofs.SmallTerms.{small-whole}
use Rattle.decide_eq.proofs.comparing.whole_item.Goals as goal

pub returns-clause-small : goal.returns-clause-small
returns-clause-small c =
    let is : items_of c.push.new.self ≡ whole_item c.args.d c.args.depth = grind (arith, common_steps) in
    subst AreSmall (sym is) (small-whole c.args.d c.args.depth c.requires.params (omega (arith, c.requires.depth)), tt)
