use Rattle.std.proofs.Common.{sym, subst}
use Rattle.std.proofs.lemmas.Result.{err_from_is_err_and}
use Rattle.store_reduce.specs.Formed.{Reaches}
use Rattle.store_reduce.proofs.ManySteps.{taken-reach, taken-adds, taken-lacks}
use Rattle.store_reduce.proofs.several.several_turn.Goals as goal

pub returns-clause-reaches : goal.returns-clause-reaches
returns-clause-reaches g c =
    let old = g.S.TermStore.held c.args.store.now in
    subst (Reaches c.args.sig.now c.args.delta (old.tree c.args.t)) (sym c.in_ok-next.ensures.makes.1)
    (taken-reach c.args.sig.now c.args.delta c.args.depth c.args.units.now.left old (old.tree c.args.t) c.args.filling c.requires.taken)

pub returns-clause-adds : goal.returns-clause-adds
returns-clause-adds g c =
    let old = g.S.TermStore.held c.args.store.now in
    taken-adds c.args.sig.now c.args.delta c.args.depth c.args.units.now.left old (old.tree c.args.t) c.args.filling c.requires.taken old
    (g.S.TermStore.held c.filled_in.new.store) c.filled_in.ensures.adds

pub returns-in_err-next-clause-adds : goal.returns-in_err-next-clause-adds
returns-in_err-next-clause-adds g c =
    let old = g.S.TermStore.held c.args.store.now in
    taken-adds c.args.sig.now c.args.delta c.args.depth c.args.units.now.left old (old.tree c.args.t) c.args.filling c.requires.taken old
    (g.S.TermStore.held c.filled_in.new.store) c.filled_in.ensures.adds

pub returns-in_err-next-clause-full : goal.returns-in_err-next-clause-full
returns-in_err-next-clause-full g c =
    let old = g.S.TermStore.held c.args.store.now in
    let q = err_from_is_err_and c.from_residual.result c.from_residual.ensures.1 in
    rw (q.1, q.2)
    (λ is. taken-lacks c.args.sig.now c.args.delta c.args.depth c.args.units.now.left old (old.tree c.args.t) c.args.filling c.requires.taken
    (g.S.TermStore.held c.filled_in.new.store) (c.in_err-next.ensures.full is))
