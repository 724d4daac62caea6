use Rattle.std.proofs.Common.{subst}
use Rattle.theory.specs.Telescopes.{applied}
use Rattle.term_pool.specs.Held.{AddsParts, IsFullFor, Makes}
use Rattle.store_reduce.proofs.ValueLaws.{live-behind, trees-behind}
use Rattle.store_reduce.proofs.several.applied_behind_in.Goals as goal

pub applied_in-requires-clause-args : goal.applied_in-requires-clause-args
applied_in-requires-clause-args g c = live-behind (g.S.TermStore.held c.args.store.now) c.args.count c.args.args.now c.requires.args

pub returns-clause-makes : goal.returns-clause-makes
returns-clause-makes g c =
    let old = g.S.TermStore.held c.args.store.now in
    subst (λ us. Makes (g.S.TermStore.held c.applied_in.new.store) c.applied_in.result (applied (old.tree c.args.f) us))
    (trees-behind old c.args.count c.args.args.now) c.applied_in.ensures.makes

pub returns-clause-full : goal.returns-clause-full
returns-clause-full g c =
    let old = g.S.TermStore.held c.args.store.now in
    subst (λ us. IsFullFor (g.S.TermStore.held c.applied_in.new.store) c.applied_in.result (applied (old.tree c.args.f) us))
    (trees-behind old c.args.count c.args.args.now) c.applied_in.ensures.full

pub returns-clause-adds : goal.returns-clause-adds
returns-clause-adds g c =
    let old = g.S.TermStore.held c.args.store.now in
    subst (λ us. AddsParts old (g.S.TermStore.held c.applied_in.new.store) (applied (old.tree c.args.f) us))
    (trees-behind old c.args.count c.args.args.now) c.applied_in.ensures.adds
