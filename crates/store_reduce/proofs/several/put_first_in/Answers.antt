use Rattle.std.proofs.Common.{sym, subst}
use Rattle.std.proofs.lemmas.List.{length-take-le}
use Rattle.theory.specs.Substitutions.{fill, inst}
use Rattle.theory.specs.Terms.{Var}
use Rattle.term_pool.specs.Held.{AddsParts, IsFullFor, Makes}
use Rattle.store_reduce.proofs.ValueLaws.{trees-first, values-first}
use Rattle.store_reduce.proofs.several.put_first_in.Goals as goal

pub slice_bounds-subst_all_in-end : goal.slice_bounds-subst_all_in-end
slice_bounds-subst_all_in-end g c = sym (length-take-le c.args.count c.args.args.now c.requires.count)

pub subst_all_in-requires-clause-values : goal.subst_all_in-requires-clause-values
subst_all_in-requires-clause-values g c = values-first (g.S.TermStore.held c.args.store.now) c.args.count c.args.args.now c.requires.args

pub returns-clause-makes : goal.returns-clause-makes
returns-clause-makes g c =
    let old = g.S.TermStore.held c.args.store.now in
    subst (λ us. Makes (g.S.TermStore.held c.subst_all_in.new.store) c.subst_all_in.result (inst (fill Var us) (old.tree c.args.body)))
    (trees-first old c.args.count c.args.args.now) c.subst_all_in.ensures.makes

pub returns-clause-full : goal.returns-clause-full
returns-clause-full g c =
    let old = g.S.TermStore.held c.args.store.now in
    subst (λ us. IsFullFor (g.S.TermStore.held c.subst_all_in.new.store) c.subst_all_in.result (inst (fill Var us) (old.tree c.args.body)))
    (trees-first old c.args.count c.args.args.now) c.subst_all_in.ensures.full

pub returns-clause-adds : goal.returns-clause-adds
returns-clause-adds g c =
    let old = g.S.TermStore.held c.args.store.now in
    subst (λ us. AddsParts old (g.S.TermStore.held c.subst_all_in.new.store) (inst (fill Var us) (old.tree c.args.body)))
    (trees-first old c.args.count c.args.args.now) c.subst_all_in.ensures.adds
