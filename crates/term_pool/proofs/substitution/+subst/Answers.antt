use Rattle.std.proofs.Common.{◌≤◌, ◌+◌, subst, sym}
use Rattle.theory.specs.Terms.{height}
use Rattle.term_pool.proofs.Putting.{put-scoped}
use Rattle.term_pool.proofs.Tables.{serves-noted}
use Rattle.term_pool.proofs.substitution.+subst.Goals as goal

pub subst_at-returns-then-bound-at-clause-makes : goal.subst_at-returns-then-bound-at-clause-makes
subst_at-returns-then-bound-at-clause-makes g t c =
    let free = subst (λ n. n ≤ c.args.at + c.args.under) c.bound.ensures.bound c.if-bound-at.true in
    let held = g.S.TermStore.held c.args.store.now in
    let stays = put-scoped (held.tree c.args.by) c.args.at (held.tree c.args.t) c.args.under free in
    (c.requires.live, sym stays, subst (λ u. height u ≤ 2000) (sym stays) c.bound.ensures.low)

pub subst_new-returns-clause-table : goal.subst_new-returns-clause-table
subst_new-returns-clause-table g t c =
    record {
      serves = serves-noted _ _ _ _ _ _ _ _ c.subst_node.ensures.table.serves c.subst_node.ensures.extends c.requires.live
          c.in_ok-answer.ensures.makes c.in_ok-keep.ensures.ok;
    }
