use Rattle.std.proofs.Common.{subst}
use Rattle.term_pool.specs.Held.{AddsParts, IsFullFor, Makes}
use Rattle.store_reduce.proofs.ValueLaws.{live-among, live-behind, method-values}
use Rattle.store_reduce.proofs.contracting.method_in.Goals as goal

pub applied_in-requires-clause-live : goal.applied_in-requires-clause-live
applied_in-requires-clause-live g c =
    live-among (g.S.TermStore.held c.args.store.now) c.args.args.now c.args.at _ c.requires.at c.index-args-at.is c.requires.args

pub applied_in-requires-clause-args : goal.applied_in-requires-clause-args
applied_in-requires-clause-args g c = live-behind (g.S.TermStore.held c.args.store.now) c.args.params c.args.us.now c.requires.us

pub returns-clause-makes : goal.returns-clause-makes
returns-clause-makes g c =
    subst (Makes (g.S.TermStore.held c.applied_in.new.store) c.applied_in.result)
    (method-values (g.S.TermStore.held c.args.store.now) c.args.args.now c.args.us.now c.args.at c.args.params _ c.requires.at c.index-args-at.is)
    c.applied_in.ensures.makes

pub returns-clause-full : goal.returns-clause-full
returns-clause-full g c =
    subst (IsFullFor (g.S.TermStore.held c.applied_in.new.store) c.applied_in.result)
    (method-values (g.S.TermStore.held c.args.store.now) c.args.args.now c.args.us.now c.args.at c.args.params _ c.requires.at c.index-args-at.is)
    c.applied_in.ensures.full

pub returns-clause-adds : goal.returns-clause-adds
returns-clause-adds g c =
    subst (AddsParts (g.S.TermStore.held c.args.store.now) (g.S.TermStore.held c.applied_in.new.store))
    (method-values (g.S.TermStore.held c.args.store.now) c.args.args.now c.args.us.now c.args.at c.args.params _ c.requires.at c.index-args-at.is)
    c.applied_in.ensures.adds
