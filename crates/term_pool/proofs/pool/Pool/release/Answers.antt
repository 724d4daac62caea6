use Rattle.std.proofs.Common.{take, ap, subst, ◌∙◌}
use Rattle.term_pool.specs.Pools.{IsWhole}
use Rattle.term_pool.proofs.Pooling.{pool-take}
use Rattle.term_pool.proofs.Regions.{nodes-stay}
use Rattle.term_pool.proofs.pool.Pool.release.Goals as goal

pub invariant_of-self : goal.invariant_of-self
invariant_of-self c =
    rw (c.truncate.ensures.keys, c.truncate-2.ensures.items) (
    pool-take c.self.inside.nodes.keys c.self.inside.facts.items c.self.inside.cap c.args.mark.len c.self.invariant
    )

pub returns-clause-back : goal.returns-clause-back
returns-clause-back c then len whole keeps =
    let here : IsWhole c.self.inside.nodes.keys = record { order = c.self.invariant.shelved.order; distinct = c.self.invariant.distinct } in
    let whole' = subst (λ p. IsWhole p.nodes) c.self.view_is here in
    c.truncate.ensures.keys
    ∙ (ap (λ p. take c.args.mark.len p.nodes) c.self.view_is
    ∙ (ap (λ n. take n c.args.self.now.nodes) len ∙ nodes-stay then c.args.self.now whole whole' keeps))
