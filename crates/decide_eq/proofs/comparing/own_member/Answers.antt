use Rattle.std.proofs.Common.{◌≡◌, ◌+◌, subst, sym, arith}
use Rattle.std.proofs.lemmas.Grind.{common_steps}
use Rattle.core_terms.specs.Meanings.{tele_of}
use Rattle.tele_eq.specs.Items.{AreSmallTerms}
use Rattle.decide_eq.specs.Comparisons.{own_member}
use Rattle.decide_eq.proofs.SmallTerms.{small-member}
use Rattle.decide_eq.proofs.comparing.own_member.Goals as goal

pub returns-clause-small : goal.returns-clause-small
returns-clause-small c =
    let is : tele_of c.push.new.self ≡ own_member c.args.d c.args.c c.args.depth = grind (arith, common_steps) in
    let near = c.requires.member in
    subst AreSmallTerms (sym is) (
      small-member c.args.d (record { number = c.args.c.number; start = c.args.depth; count = c.args.c.count }) (c.args.depth + c.args.c.count) c.requires.family
          (record { number = near.number; start = omega (arith, c.requires.depth); count = near.count }) (omega (arith, c.requires.depth, near.count)),
      tt,
    )
