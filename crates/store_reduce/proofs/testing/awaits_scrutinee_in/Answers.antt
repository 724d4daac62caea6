use Rattle.std.proofs.Common.{sym, ap, ◌∙◌}
use Rattle.term_pool.specs.Nodes.{says}
use Rattle.store_reduce.proofs.HeadTests.{awaits-eliminator}
use Rattle.store_reduce.proofs.testing.awaits_scrutinee_in.Goals as goal

pub returns-in-Some : goal.returns-in-Some
returns-in-Some g c =
    let held = g.S.TermStore.held c.args.store.now in
    awaits-eliminator c.args.sig.now (held.tree c.args.f.id) _ _ _ _ _ (sym c.requires.head ∙ (c.look.ensures.says ∙ ap (says held.tree) c.in-Elim.is))
    c.in-Some.ensures.family c.requires.count c.eliminator_arity.ensures
