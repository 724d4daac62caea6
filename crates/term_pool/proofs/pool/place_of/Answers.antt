use Rattle.std.proofs.Common.{rules}
use Rattle.term_pool.specs.declared.node.Node.TheVariants.{Sort}
use Rattle.term_pool.proofs.Pooling.{found-place, no-place}
use Rattle.term_pool.proofs.pool.place_of.Goals as goal

pub returns-clause-found : goal.returns-clause-found
returns-clause-found c =
    found-place _ (Sort 0) c.args.nodes.now.keys c.args.node.now c.get_index_of.result c.get_index_of.ensures.index (λ y e. search rules)

pub returns-clause-absent : goal.returns-clause-absent
returns-clause-absent c =
    no-place _ (Sort 0) c.args.nodes.now.keys c.args.node.now c.get_index_of.result c.get_index_of.ensures.found (search rules)
