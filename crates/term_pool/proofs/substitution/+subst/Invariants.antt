use Rattle.std.proofs.Common.{◌+◌, ◌*◌}
use Rattle.theory.specs.Terms.{height}
use Rattle.term_pool.proofs.substitution.+subst.Given as goal

abbrev pub decreases-subst_at : goal.decreases-subst_at
decreases-subst_at g l = 3 * height ((g.S.TermStore.held l.store.now).tree l.t) + 2

abbrev pub decreases-subst_new : goal.decreases-subst_new
decreases-subst_new g l = 3 * height ((g.S.TermStore.held l.store.now).tree l.t) + 1

abbrev pub decreases-subst_node : goal.decreases-subst_node
decreases-subst_node g l = 3 * height ((g.S.TermStore.held l.store.now).tree l.t)
