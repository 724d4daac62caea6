use Rattle.std.proofs.Common.{◌+◌, ◌*◌}
use Rattle.theory.specs.Terms.{height}
use Rattle.term_pool.proofs.instantiation.+inst.Given as goal

abbrev pub decreases-inst_at : goal.decreases-inst_at
decreases-inst_at g l = 3 * height ((g.S.TermStore.held l.store.now).tree l.t) + 2

abbrev pub decreases-inst_new : goal.decreases-inst_new
decreases-inst_new g l = 3 * height ((g.S.TermStore.held l.store.now).tree l.t) + 1

abbrev pub decreases-inst_node : goal.decreases-inst_node
decreases-inst_node g l = 3 * height ((g.S.TermStore.held l.store.now).tree l.t)
