use Rattle.std.proofs.Common.{subst}
use Rattle.term_pool.specs.Held.{AddsParts, IsFullFor, Makes}
use Rattle.store_reduce.proofs.ValueLaws.{hypothesis-values, value-free, value-live, values-first}
use Rattle.store_reduce.proofs.iota.hypothesis_at_in.Goals as goal

pub hypothesis_in-requires-clause-values : goal.hypothesis_in-requires-clause-values
hypothesis_in-requires-clause-values g c = values-first (g.S.TermStore.held c.args.store.now) c.args.known c.args.values.now c.requires.values

pub hypothesis_in-requires-clause-r : goal.hypothesis_in-requires-clause-r
hypothesis_in-requires-clause-r g c =
    value-live (g.S.TermStore.held c.args.store.now) c.args.values.now c.args.known _ c.requires.known c.index-values-known.is c.requires.values

pub hypothesis_in-requires-clause-r_free : goal.hypothesis_in-requires-clause-r_free
hypothesis_in-requires-clause-r_free g c =
    value-free (g.S.TermStore.held c.args.store.now) c.args.values.now c.args.known _ c.requires.known c.index-values-known.is c.requires.values

pub returns-clause-makes : goal.returns-clause-makes
returns-clause-makes g c =
    subst (Makes (g.S.TermStore.held c.hypothesis_in.new.store) c.hypothesis_in.result)
    (hypothesis-values (g.S.TermStore.held c.args.store.now) c.args.values.now c.args.params _ c.args.known _ c.args.inner _ c.requires.known c.index-values-known.is)
    c.hypothesis_in.ensures.makes

pub returns-clause-full : goal.returns-clause-full
returns-clause-full g c =
    subst (IsFullFor (g.S.TermStore.held c.hypothesis_in.new.store) c.hypothesis_in.result)
    (hypothesis-values (g.S.TermStore.held c.args.store.now) c.args.values.now c.args.params _ c.args.known _ c.args.inner _ c.requires.known c.index-values-known.is)
    c.hypothesis_in.ensures.full

pub returns-clause-adds : goal.returns-clause-adds
returns-clause-adds g c =
    subst (AddsParts (g.S.TermStore.held c.args.store.now) (g.S.TermStore.held c.hypothesis_in.new.store))
    (hypothesis-values (g.S.TermStore.held c.args.store.now) c.args.values.now c.args.params _ c.args.known _ c.args.inner _ c.requires.known c.index-values-known.is)
    c.hypothesis_in.ensures.adds
