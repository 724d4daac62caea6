use Rattle.std.proofs.Common.{None, true, ◌≡◌, refl, subst, sym}
use Rattle.std.proofs.lemmas.Result.{err_from_is_err_and}
use Rattle.term_pool.specs.Nodes.{AllPass, says}
use Rattle.term_pool.specs.Pools.{pool_held}
use Rattle.term_pool.specs.Shelves.{facts_of}
use Rattle.term_pool.proofs.Places.{refused-new, refused-full, placed-pool, placed-makes, placed-extends, placed-adds}
use Rattle.term_pool.proofs.pool.Pool.intern.Goals as goal

pub returns-in_err-at-clause-full : goal.returns-in_err-at-clause-full
returns-in_err-at-clause-full c =
    let p = c.self.inside in
    let parts = subst (λ s. AllPass (pool_held s).live c.args.node) (sym c.self.view_is) c.requires in
    let q = err_from_is_err_and c.from_residual.result c.from_residual.ensures.1 in
    rw (q.1, q.2, ← c.self.view_is) (λ is.
    let no_room = c.in_err-at.ensures.full is in
    refused-full p.nodes.keys p.facts.items p.cap c.self.invariant c.args.node parts _ c.in_err-at.ensures.nodes no_room.1 _ _ _ _ no_room.0)

pub returns-in_err-at-clause-lacking : goal.returns-in_err-at-clause-lacking
returns-in_err-at-clause-lacking c =
    let p = c.self.inside in
    let parts = subst (λ s. AllPass (pool_held s).live c.args.node) (sym c.self.view_is) c.requires in
    let q = err_from_is_err_and c.from_residual.result c.from_residual.ensures.1 in
    rw (q.1, q.2, ← c.self.view_is) (λ is.
    let no_room = c.in_err-at.ensures.full is in
    refused-new p.nodes.keys p.facts.items p.cap c.self.invariant c.args.node parts _ c.in_err-at.ensures.nodes no_room.1 0 0 true (λ n key. None) true)

pub invariant_of-self-2 : goal.invariant_of-self-2
invariant_of-self-2 c =
    let p = c.self.inside in
    let parts = subst (λ s. AllPass (pool_held s).live c.args.node) (sym c.self.view_is) c.requires in
    let made = subst (λ s. c.facts_of-facts.result ≡ facts_of (says (pool_held s).tree c.args.node)) (sym c.self.view_is) c.facts_of-facts.ensures in
    placed-pool p.nodes.keys p.facts.items p.cap c.self.invariant c.args.node parts c.facts_of-facts.result made _ _ _ c.in_ok-at.ensures.ok

pub returns-clause-makes : goal.returns-clause-makes
returns-clause-makes c =
    let p = c.self.inside in
    let parts = subst (λ s. AllPass (pool_held s).live c.args.node) (sym c.self.view_is) c.requires in
    let made = subst (λ s. c.facts_of-facts.result ≡ facts_of (says (pool_held s).tree c.args.node)) (sym c.self.view_is) c.facts_of-facts.ensures in
    rw (← c.self.view_is) (
    placed-makes p.nodes.keys p.facts.items p.cap c.self.invariant c.args.node parts c.facts_of-facts.result made _ _ _
    (record { at = c.in_ok-at.at }) refl c.in_ok-at.ensures.ok
    )

pub returns-clause-extends : goal.returns-clause-extends
returns-clause-extends c =
    let p = c.self.inside in
    let parts = subst (λ s. AllPass (pool_held s).live c.args.node) (sym c.self.view_is) c.requires in
    let made = subst (λ s. c.facts_of-facts.result ≡ facts_of (says (pool_held s).tree c.args.node)) (sym c.self.view_is) c.facts_of-facts.ensures in
    rw (← c.self.view_is) (
    placed-extends p.nodes.keys p.facts.items p.cap c.self.invariant c.args.node parts c.facts_of-facts.result made _ _ _ _ _ _ _ _ _ c.in_ok-at.ensures.ok
    )

pub returns-clause-adds : goal.returns-clause-adds
returns-clause-adds c =
    let p = c.self.inside in
    let parts = subst (λ s. AllPass (pool_held s).live c.args.node) (sym c.self.view_is) c.requires in
    let made = subst (λ s. c.facts_of-facts.result ≡ facts_of (says (pool_held s).tree c.args.node)) (sym c.self.view_is) c.facts_of-facts.ensures in
    rw (← c.self.view_is) (
    placed-adds p.nodes.keys p.facts.items p.cap c.self.invariant c.args.node parts c.facts_of-facts.result made _ _ _ _ _ _ _ _ _ c.in_ok-at.ensures.ok
    )
