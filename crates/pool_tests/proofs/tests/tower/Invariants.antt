use Rattle.std.proofs.Common.{IsTrue}
use Rattle.term_pool.specs.Held.{Extends}
use Rattle.term_pool.specs.Pools.{pool_held}
use Rattle.pool_tests.proofs.tests.tower.Given as goal

abbrev pub invariant-loop : goal.invariant-loop
invariant-loop l = IsTrue ((pool_held l.pool).live l.top) × Extends (pool_held l.initial.pool) (pool_held l.pool)
