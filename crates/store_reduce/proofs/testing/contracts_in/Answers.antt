use Rattle.std.proofs.Common.{sym, ap, ◌∙◌}
use Rattle.term_pool.specs.Nodes.{says}
use Rattle.store_reduce.proofs.HeadTests.{meets-constructor}
use Rattle.store_reduce.proofs.testing.contracts_in.Goals as goal

pub returns-in-Some : goal.returns-in-Some
returns-in-Some g c =
    let held = g.S.TermStore.held c.args.store.now in
    meets-constructor c.args.sig.now (held.tree c.args.f.id) (held.tree c.args.u.id) _ _ _ _ _ _ _
    (sym c.requires.f.head ∙ (c.look.ensures.says ∙ ap (says held.tree) c.in-Elim-Con.is-0))
    (sym c.requires.u.head ∙ (c.look-2.ensures.says ∙ ap (says held.tree) c.in-Elim-Con.is-1)) c.if-g-n.true c.in-Some.ensures.family c.requires.u.count c.takes.ensures
