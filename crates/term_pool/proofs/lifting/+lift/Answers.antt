use Rattle.std.proofs.Common.{◌≤◌, subst, sym}
use Rattle.theory.specs.Terms.{height}
use Rattle.theory.proofs.FreeVariables.{lift_of_scoped}
use Rattle.term_pool.specs.Lifting.{Lifts}
use Rattle.term_pool.proofs.Tables.{serves-noted}
use Rattle.term_pool.proofs.lifting.+lift.Goals as goal

pub lift_at-returns-then-bound-from-clause-makes :
    goal.lift_at-returns-then-bound-from-clause-makes
lift_at-returns-then-bound-from-clause-makes g t c =
    let free = subst (λ n. n ≤ c.args.from) c.bound.ensures.bound c.if-bound-from.true in
    let stays = lift_of_scoped ((g.S.TermStore.held c.args.store.now).tree c.args.t) c.args.by c.args.from free in
    (c.requires.live, sym stays, subst (λ u. height u ≤ 2000) (sym stays) c.bound.ensures.low)

pub lift_new-returns-in_err-keep-clause-table : goal.lift_new-returns-in_err-keep-clause-table
lift_new-returns-in_err-keep-clause-table g t c =
    subst (Lifts c.args.by (g.S.TermStore.held c.lift_node.new.store)) (sym c.in_err-keep.ensures.err) c.lift_node.ensures.table

pub lift_new-returns-clause-table : goal.lift_new-returns-clause-table
lift_new-returns-clause-table g t c =
    serves-noted _ _ _ _ _ _ _ _ c.lift_node.ensures.table c.lift_node.ensures.extends c.requires.live
    c.in_ok-answer.ensures.makes c.in_ok-keep.ensures.ok
