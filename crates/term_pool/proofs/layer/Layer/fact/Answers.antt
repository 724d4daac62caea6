use Rattle.std.proofs.Common.{◌≤◌, subst}
use Rattle.theory.specs.Terms as tree
use Rattle.term_pool.specs.Layers.{all_nodes}
use Rattle.term_pool.specs.Pools.{id_place}
use Rattle.term_pool.specs.Shelves.{tree_at}
use Rattle.term_pool.proofs.layer.Layer.fact.Goals as goal

pub returns-clause-low : goal.returns-clause-low
returns-clause-low c =
    let whole = c.self.invariant.whole c.kept-kept.result.now c.kept-kept.ensures in
    subst (λ l. tree.height (tree_at id_place (all_nodes l) c.args.at) ≤ 2000) c.self.view_is (whole.shelved.low c.args.at)
