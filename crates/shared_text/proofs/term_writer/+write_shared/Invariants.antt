use Rattle.std.proofs.Common.{◌+◌, ◌*◌}
use Rattle.term_pool.specs.Pools.{pool_held}
use Rattle.theory.specs.Terms.{height}
use Rattle.shared_text.proofs.term_writer.+write_shared.Given as goal

abbrev pub decreases-write_full : goal.decreases-write_full
decreases-write_full l = 4 * height ((pool_held l.texts.now.pool.now).tree l.id)

abbrev pub decreases-write_shared : goal.decreases-write_shared
decreases-write_shared l = 4 * height ((pool_held l.texts.now.pool.now).tree l.id) + 1

abbrev pub decreases-write_function : goal.decreases-write_function
decreases-write_function l = 4 * height ((pool_held l.texts.now.pool.now).tree l.id) + 2
