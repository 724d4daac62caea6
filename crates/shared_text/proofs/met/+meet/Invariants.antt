use Rattle.std.proofs.Common.{◌+◌, ◌*◌}
use Rattle.term_pool.specs.Pools.{pool_held}
use Rattle.theory.specs.Terms.{height}
use Rattle.shared_text.proofs.met.+meet.Given as goal

abbrev pub decreases-meet_inside : goal.decreases-meet_inside
decreases-meet_inside l = 4 * height ((pool_held l.pool.now).tree l.id)

abbrev pub decreases-meet : goal.decreases-meet
decreases-meet l = 4 * height ((pool_held l.pool.now).tree l.id) + 1

abbrev pub decreases-meet_function : goal.decreases-meet_function
decreases-meet_function l = 4 * height ((pool_held l.pool.now).tree l.id) + 2
