use Rattle.std.proofs.Common.{rules, ◌≡◌, ◌≤◌, [], ◌∷◌, ◌++◌, length, subst, sym}
use Rattle.term_pool.specs.Nodes.{AllPass, says}
use Rattle.term_pool.specs.Shelves.{facts_of}
use Rattle.term_pool.specs.Trees.{tree_place, trees_held}
use Rattle.term_pool.specs.declared.facts.Facts.{Facts}
use Rattle.term_pool.proofs.Shelving.{shelved-push, parts-below, makes-push, extends-push, adds-push}
use Rattle.term_pool.proofs.trees.TreesTermStore.make.Goals as goal

pub invariant_of-self-2 : goal.invariant_of-self-2
invariant_of-self-2 c =
    let nodes : c.push.new.self.items ≡ c.self.inside.nodes.items ++ c.args.node ∷ [] = search rules in
    let facts : c.push-2.new.self.items ≡ c.self.inside.facts.items ++ c.facts_of-facts.result ∷ [] = search rules in
    let parts = subst (λ s. AllPass (trees_held s).live c.args.node) (sym c.self.view_is) c.requires in
    let made = subst (λ s. c.facts_of-facts.result ≡ facts_of (says (trees_held s).tree c.args.node)) (sym c.self.view_is) c.facts_of-facts.ensures in
    rw (nodes, facts) (
    shelved-push tree_place c.self.inside.nodes.items c.self.inside.facts.items c.args.node c.facts_of-facts.result c.self.invariant
    (parts-below tree_place c.self.inside.nodes.items c.args.node c.self.invariant.order parts) made c.if-facts-gt-MAX_HEIGHT.false
    )

pub returns-clause-makes : goal.returns-clause-makes
returns-clause-makes c =
    let nodes : c.push.new.self.items ≡ c.self.inside.nodes.items ++ c.args.node ∷ [] = search rules in
    let at : c.in_ok-at.at ≡ length c.self.inside.nodes.items = search rules in
    let parts = subst (λ s. AllPass (trees_held s).live c.args.node) (sym c.self.view_is) c.requires in
    let made = subst (λ s. c.facts_of-facts.result ≡ facts_of (says (trees_held s).tree c.args.node)) (sym c.self.view_is) c.facts_of-facts.ensures in
    let low = subst (λ (f : Facts). f.height ≤ 2000) made c.if-facts-gt-MAX_HEIGHT.false in
    rw (nodes, ← c.self.view_is) (
    makes-push tree_place c.self.inside.nodes.items c.args.node c.self.invariant.order parts (record { at = c.in_ok-at.at }) at low
    )

pub returns-clause-extends : goal.returns-clause-extends
returns-clause-extends c =
    let nodes : c.push.new.self.items ≡ c.self.inside.nodes.items ++ c.args.node ∷ [] = search rules in
    let parts = subst (λ s. AllPass (trees_held s).live c.args.node) (sym c.self.view_is) c.requires in
    rw (nodes, ← c.self.view_is) (
    extends-push tree_place c.self.inside.nodes.items c.args.node c.self.invariant.order parts _ _ _ _ _ _
    )

pub returns-clause-adds : goal.returns-clause-adds
returns-clause-adds c =
    let nodes : c.push.new.self.items ≡ c.self.inside.nodes.items ++ c.args.node ∷ [] = search rules in
    let parts = subst (λ s. AllPass (trees_held s).live c.args.node) (sym c.self.view_is) c.requires in
    rw (nodes, ← c.self.view_is) (
    adds-push tree_place c.self.inside.nodes.items c.args.node c.self.invariant.order parts _ _ _ _ _ _
    )
