use Rattle.std.proofs.Common.{◌+◌, subst, sym, arith}
use Rattle.core_terms.proofs.Builders.{ok_is}
use Rattle.tele_eq.specs.Items.{IsSmall}
use Rattle.generators.proofs.noconf_gen.SmallTerms.{small-constant}
use Rattle.generators.proofs.noconf_gen.noconf.elimination_along.Goals as goal

pub telescopic_j_whole-requires-clause-goal_head : goal.telescopic_j_whole-requires-clause-goal_head
telescopic_j_whole-requires-clause-goal_head c =
    let start = c.args.start in
    let count = c.args.count in
    subst IsSmall (sym (ok_is c.in_ok-head.ensures)) (small-constant c.args.nct (start + count + count) start (omega (arith, c.requires.start, c.requires.count)) (omega (arith, c.requires.start)))
