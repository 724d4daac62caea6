use Rattle.std.proofs.Common.{◌<◌, ◌∙◌, sym, true≢false, subst, arith}
use Rattle.term_pool.specs.Nodes.{AllParts}
use Rattle.term_pool.specs.Pools.{id_place}
use Rattle.term_pool.specs.Shelves.{AreInOrder}
use Rattle.term_pool.specs.declared.ids.Id.{Id}
use Rattle.term_pool.proofs.Shelving.{parts-map}
use Rattle.term_pool.proofs.pool.Pool.place_below.Goals as goal

pub returns-else-parts_below-clause-absent : goal.returns-else-parts_below-clause-absent
returns-else-parts_below-clause-absent c i less e =
    let order = subst (λ p. AreInOrder id_place p.nodes) c.self.view_is c.self.invariant.shelved.order in
    let before = subst (AllParts (λ (q : Id). q.at < i)) e (order.each i) in
    let all = parts-map (λ (q : Id). q.at < i) (λ (q : Id). q.at < c.len-count.result) c.args.node.now (λ q l. omega (arith, l, less, c.len-count.ensures.len)) before in
    true≢false (sym (c.parts_below.ensures all) ∙ c.if-parts_below.false)
