use Rattle.std.proofs.Common.{◌≤◌, subst, sym}
use Rattle.theory.specs.Terms.{height}
use Rattle.term_pool.specs.Instantiation.{beyond_of, trees_of}
use Rattle.term_pool.proofs.Instancing.{instance-scoped}
use Rattle.term_pool.proofs.Tables.{serves-noted}
use Rattle.term_pool.proofs.instantiation.+inst.Goals as goal

pub inst_at-returns-then-bound-under-clause-makes : goal.inst_at-returns-then-bound-under-clause-makes
inst_at-returns-then-bound-under-clause-makes g t c =
    let free = subst (λ n. n ≤ c.args.under) c.bound.ensures.bound c.if-bound-under.true in
    let held = g.S.TermStore.held c.args.store.now in
    let stays = instance-scoped (beyond_of c.args.beyond) (trees_of held c.args.values.now) c.args.under (held.tree c.args.t) free in
    (c.requires.live, sym stays, subst (λ u. height u ≤ 2000) (sym stays) c.bound.ensures.low)

pub inst_new-returns-clause-table : goal.inst_new-returns-clause-table
inst_new-returns-clause-table g t c =
    record {
      serves = serves-noted _ _ _ _ _ _ _ _ c.inst_node.ensures.table.serves c.inst_node.ensures.extends c.requires.live
          c.in_ok-answer.ensures.makes c.in_ok-keep.ensures.ok;
    }
