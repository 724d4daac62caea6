use Rattle.std.proofs.Common.{rules, ◌≡◌, []}
use Rattle.term_pool.proofs.Pooling.{pool-none}
use Rattle.term_pool.proofs.pool.Pool.new.Goals as goal

pub invariant_of-result : goal.invariant_of-result
invariant_of-result c =
    let nodes : c.in_ok-nodes.nodes.keys ≡ [] = search rules in
    rw (nodes, c.new.ensures.items) (pool-none c.args.cap c.requires)
