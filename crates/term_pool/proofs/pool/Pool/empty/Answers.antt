use Rattle.std.proofs.Common.{rules, ◌≡◌, [], arith}
use Rattle.term_pool.proofs.Pooling.{pool-none}
use Rattle.term_pool.proofs.pool.Pool.empty.Goals as goal

pub invariant_of-result : goal.invariant_of-result
invariant_of-result c =
    let nodes : c.with_hasher.result.keys ≡ [] = search rules in
    rw (nodes, c.new.ensures.items) (pool-none 50000000 (omega arith))
