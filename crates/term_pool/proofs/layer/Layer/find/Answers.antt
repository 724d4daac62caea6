use Rattle.std.proofs.Common.{◌++◌, Ok, subst, sym}
use Rattle.term_pool.specs.Held.{Makes}
use Rattle.term_pool.specs.Nodes.{AllPass, says}
use Rattle.term_pool.specs.Layers.{layer_held}
use Rattle.term_pool.proofs.Layering.{found-before}
use Rattle.term_pool.proofs.Pooling.{old-node}
use Rattle.term_pool.proofs.layer.Layer.find.Goals as goal

pub returns-clause-found : goal.returns-clause-found
returns-clause-found c =
    let p = c.self.inside in
    let whole = c.self.invariant.whole c.kept-kept.result.now c.kept-kept.ensures in
    let parts = subst (λ s. AllPass (layer_held s).live c.args.node.now) (sym c.self.view_is) c.requires in
    let at = found-before p.base.now.nodes p.nodes.keys c.args.node.now c.in_ok-at.at c.in_ok-at.ensures.found in
    let made = old-node (p.base.now.nodes ++ p.nodes.keys) (c.kept-kept.result.now ++ p.facts.items) p.base.now.cap whole c.args.node.now parts (record { at = c.in_ok-at.at }) at.0 at.1 in
    subst (λ s. Makes (layer_held s) (Ok (record { at = c.in_ok-at.at })) (says (layer_held s).tree c.args.node.now)) c.self.view_is made
