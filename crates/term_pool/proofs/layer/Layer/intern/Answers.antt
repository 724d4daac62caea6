use Rattle.std.proofs.Common.{None, true, ◌≡◌, ◌+◌, ◌-◌, ◌++◌, ap, ap₂, subst, sym, arith}
use Rattle.std.proofs.lemmas.List.{length-append}
use Rattle.std.proofs.lemmas.Result.{err_from_is_err_and}
use Rattle.term_pool.specs.Layers.{layer_held}
use Rattle.term_pool.specs.Nodes.{AllPass, says}
use Rattle.term_pool.specs.Placing.{IsNowhere}
use Rattle.term_pool.specs.Shelves.{facts_of}
use Rattle.term_pool.proofs.Layering.{nowhere-at-all}
use Rattle.term_pool.proofs.Places.{refused-new, refused-full, placed-makes, placed-extends, placed-adds, placed-over, placed-layer}
use Rattle.term_pool.proofs.layer.Layer.intern.Goals as goal

pub returns-in_err-at-clause-full : goal.returns-in_err-at-clause-full
returns-in_err-at-clause-full c =
    let p = c.self.inside in
    let whole = c.self.invariant.whole c.kept-kept.result.now c.kept-kept.ensures in
    let parts = subst (λ s. AllPass (layer_held s).live c.args.node) (sym c.self.view_is) c.requires.live in
    let beside = subst (λ s. IsNowhere s.base.nodes c.args.node) (sym c.self.view_is) c.requires.beside in
    let room = ap₂ ◌-◌ c.cap.ensures c.len-count.ensures.len in
    let q = err_from_is_err_and c.from_residual.result c.from_residual.ensures.1 in
    rw (q.1, q.2, ← c.self.view_is) (λ is.
    let no_room = c.in_err-at.ensures.full is in
    refused-full (p.base.now.nodes ++ p.nodes.keys) (c.kept-kept.result.now ++ p.facts.items) p.base.now.cap whole c.args.node parts _ (ap (λ ns. p.base.now.nodes ++ ns) c.in_err-at.ensures.nodes)
    (nowhere-at-all p.base.now.nodes p.nodes.keys c.args.node beside no_room.1) _ _ _ _
    (omega (arith, no_room.0, c.cap.ensures, c.len-count.ensures.len, c.len-count.ensures.room, length-append p.base.now.nodes p.nodes.keys)))

pub returns-in_err-at-clause-lacking : goal.returns-in_err-at-clause-lacking
returns-in_err-at-clause-lacking c =
    let p = c.self.inside in
    let whole = c.self.invariant.whole c.kept-kept.result.now c.kept-kept.ensures in
    let parts = subst (λ s. AllPass (layer_held s).live c.args.node) (sym c.self.view_is) c.requires.live in
    let beside = subst (λ s. IsNowhere s.base.nodes c.args.node) (sym c.self.view_is) c.requires.beside in
    let room = ap₂ ◌-◌ c.cap.ensures c.len-count.ensures.len in
    let q = err_from_is_err_and c.from_residual.result c.from_residual.ensures.1 in
    rw (q.1, q.2, ← c.self.view_is) (λ is.
    let no_room = c.in_err-at.ensures.full is in
    refused-new (p.base.now.nodes ++ p.nodes.keys) (c.kept-kept.result.now ++ p.facts.items) p.base.now.cap whole c.args.node parts _ (ap (λ ns. p.base.now.nodes ++ ns) c.in_err-at.ensures.nodes)
    (nowhere-at-all p.base.now.nodes p.nodes.keys c.args.node beside no_room.1) 0 0 true (λ n key. None) true)

pub invariant_of-self-2 : goal.invariant_of-self-2
invariant_of-self-2 c =
    let p = c.self.inside in
    let whole = c.self.invariant.whole c.kept-kept.result.now c.kept-kept.ensures in
    let parts = subst (λ s. AllPass (layer_held s).live c.args.node) (sym c.self.view_is) c.requires.live in
    let beside = subst (λ s. IsNowhere s.base.nodes c.args.node) (sym c.self.view_is) c.requires.beside in
    let room = ap₂ ◌-◌ c.cap.ensures c.len-count.ensures.len in
    let made = subst (λ s. c.facts_of-facts.result ≡ facts_of (says (layer_held s).tree c.args.node)) (sym c.self.view_is) c.facts_of-facts.ensures in
    placed-layer p.base.now.nodes p.base.now.cap p.nodes.keys p.facts.items c.self.invariant c.args.node parts c.facts_of-facts.result made _ _ _ _ beside
    c.len-count.ensures.room room c.in_ok-at.ensures.ok

pub returns-clause-makes : goal.returns-clause-makes
returns-clause-makes c =
    let p = c.self.inside in
    let whole = c.self.invariant.whole c.kept-kept.result.now c.kept-kept.ensures in
    let parts = subst (λ s. AllPass (layer_held s).live c.args.node) (sym c.self.view_is) c.requires.live in
    let beside = subst (λ s. IsNowhere s.base.nodes c.args.node) (sym c.self.view_is) c.requires.beside in
    let room = ap₂ ◌-◌ c.cap.ensures c.len-count.ensures.len in
    let made = subst (λ s. c.facts_of-facts.result ≡ facts_of (says (layer_held s).tree c.args.node)) (sym c.self.view_is) c.facts_of-facts.ensures in
    let placed =
    placed-over p.base.now.nodes c.kept-kept.result.now p.nodes.keys p.facts.items p.base.now.cap _ c.args.node c.facts_of-facts.result _ _ _ beside
    c.len-count.ensures.room room c.in_ok-at.ensures.ok in
    rw (← c.self.view_is) (
    placed-makes (p.base.now.nodes ++ p.nodes.keys) (c.kept-kept.result.now ++ p.facts.items) p.base.now.cap whole c.args.node parts c.facts_of-facts.result made _ _ _
    (record { at = c.len-count.result + c.in_ok-at.at }) (ap (λ k. k + c.in_ok-at.at) c.len-count.ensures.len) placed
    )

pub returns-clause-extends : goal.returns-clause-extends
returns-clause-extends c =
    let p = c.self.inside in
    let whole = c.self.invariant.whole c.kept-kept.result.now c.kept-kept.ensures in
    let parts = subst (λ s. AllPass (layer_held s).live c.args.node) (sym c.self.view_is) c.requires.live in
    let beside = subst (λ s. IsNowhere s.base.nodes c.args.node) (sym c.self.view_is) c.requires.beside in
    let room = ap₂ ◌-◌ c.cap.ensures c.len-count.ensures.len in
    let made = subst (λ s. c.facts_of-facts.result ≡ facts_of (says (layer_held s).tree c.args.node)) (sym c.self.view_is) c.facts_of-facts.ensures in
    let placed =
    placed-over p.base.now.nodes c.kept-kept.result.now p.nodes.keys p.facts.items p.base.now.cap _ c.args.node c.facts_of-facts.result _ _ _ beside
    c.len-count.ensures.room room c.in_ok-at.ensures.ok in
    rw (← c.self.view_is) (
    placed-extends (p.base.now.nodes ++ p.nodes.keys) (c.kept-kept.result.now ++ p.facts.items) p.base.now.cap whole c.args.node parts c.facts_of-facts.result made _ _ _ _ _ _ _ _ _ placed
    )

pub returns-clause-adds : goal.returns-clause-adds
returns-clause-adds c =
    let p = c.self.inside in
    let whole = c.self.invariant.whole c.kept-kept.result.now c.kept-kept.ensures in
    let parts = subst (λ s. AllPass (layer_held s).live c.args.node) (sym c.self.view_is) c.requires.live in
    let beside = subst (λ s. IsNowhere s.base.nodes c.args.node) (sym c.self.view_is) c.requires.beside in
    let room = ap₂ ◌-◌ c.cap.ensures c.len-count.ensures.len in
    let made = subst (λ s. c.facts_of-facts.result ≡ facts_of (says (layer_held s).tree c.args.node)) (sym c.self.view_is) c.facts_of-facts.ensures in
    let placed =
    placed-over p.base.now.nodes c.kept-kept.result.now p.nodes.keys p.facts.items p.base.now.cap _ c.args.node c.facts_of-facts.result _ _ _ beside
    c.len-count.ensures.room room c.in_ok-at.ensures.ok in
    rw (← c.self.view_is) (
    placed-adds (p.base.now.nodes ++ p.nodes.keys) (c.kept-kept.result.now ++ p.facts.items) p.base.now.cap whole c.args.node parts c.facts_of-facts.result made _ _ _ _ _ _ _ _ _ placed
    )
