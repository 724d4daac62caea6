use Rattle.std.proofs.Common.{rules, ◌≡◌, []}
use Rattle.term_pool.proofs.Layering.{layer-none}
use Rattle.term_pool.proofs.layer.Layer.over.Goals as goal

pub invariant_of-result : goal.invariant_of-result
invariant_of-result c =
    let nodes : c.with_hasher.result.keys ≡ [] = search rules in
    let facts : c.new.result.items ≡ [] = search rules in
    rw (nodes, facts) (layer-none c.args.base.now.nodes c.args.base.now.cap)
