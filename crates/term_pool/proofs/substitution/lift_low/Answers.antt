use Rattle.std.proofs.Common.{◌≤◌, ◌≡◌, ap, subst, sym, ◌∙◌}
use Rattle.theory.specs.Terms.{height, lift}
use Rattle.theory.proofs.Commuting.{lift_by_none}
use Rattle.term_pool.proofs.substitution.lift_low.Goals as goal

pub returns-then-under-eq0-clause-makes : goal.returns-then-under-eq0-clause-makes
returns-then-under-eq0-clause-makes g c =
    let t = (g.S.TermStore.held c.args.store.now).tree c.args.t in
    let stays = ap (λ n. lift t n 0) c.if-under-eq0.true ∙ lift_by_none t 0 in
    (c.requires.live, sym stays, subst (λ u. height u ≤ 2000) (sym stays) c.bound-low.ensures.low)
