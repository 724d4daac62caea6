use Rattle.std.proofs.Common.{◌+◌, ◌*◌}
use Rattle.theory.specs.Terms.{height}
use Rattle.term_pool.proofs.lifting.+lift.Given as goal

abbrev pub decreases-lift_at : goal.decreases-lift_at
decreases-lift_at g l = 3 * height ((g.S.TermStore.held l.store.now).tree l.t) + 2

abbrev pub decreases-lift_new : goal.decreases-lift_new
decreases-lift_new g l = 3 * height ((g.S.TermStore.held l.store.now).tree l.t) + 1

abbrev pub decreases-lift_node : goal.decreases-lift_node
decreases-lift_node g l = 3 * height ((g.S.TermStore.held l.store.now).tree l.t)
