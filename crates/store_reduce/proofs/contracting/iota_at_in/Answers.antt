use Rattle.std.proofs.Common.{◌++◌, get_or, length, take, drop, ap, ◌∙◌, subst, arith}
use Rattle.std.proofs.lemmas.List.{length-append, length-take, length-drop}
use Rattle.theory.specs.Terms.{Sort}
use Rattle.theory.specs.Telescopes.{applied}
use Rattle.kernel_reduce.specs.Calls.{hypotheses_of}
use Rattle.term_pool.specs.Instantiation.{trees_of}
use Rattle.term_pool.specs.Held.{AddsParts, IsFullFor, Makes}
use Rattle.store_reduce.proofs.SpineLaws.{part-applied, parts-then}
use Rattle.store_reduce.proofs.ValueLaws.{iota-values, joined-kept, values-live}
use Rattle.store_reduce.proofs.contracting.iota_at_in.Goals as goal

pub method_in-requires-clause-args : goal.method_in-requires-clause-args
method_in-requires-clause-args g c = values-live (g.S.TermStore.held c.args.store.now) c.args.args.now c.requires.args

pub method_in-requires-clause-us : goal.method_in-requires-clause-us
method_in-requires-clause-us g c = values-live (g.S.TermStore.held c.args.store.now) c.args.us.now c.requires.us

pub with_hypotheses_in-requires-clause-values : goal.with_hypotheses_in-requires-clause-values
with_hypotheses_in-requires-clause-values g c =
    joined-kept (g.S.TermStore.held c.args.store.now) (g.S.TermStore.held c.method_in.new.store) c.method_in.ensures.extends c.args.args.now c.args.us.now _
    c.args.params c.requires.args c.requires.us (c.as_slice.ensures.value ∙ c.in_ok-values.ensures)

pub with_hypotheses_in-requires-clause-known : goal.with_hypotheses_in-requires-clause-known
with_hypotheses_in-requires-clause-known g c =
    let p = c.args.params in
    omega (
      arith,
      ap length (c.as_slice.ensures.value ∙ c.in_ok-values.ensures),
      length-append (take p c.args.args.now) (drop p c.args.us.now),
      length-take p c.args.args.now,
      length-drop p c.args.us.now,
    )

pub returns-clause-makes : goal.returns-clause-makes
returns-clause-makes g c =
    subst (Makes (g.S.TermStore.held c.with_hypotheses_in.new.store) c.with_hypotheses_in.result)
    (iota-values (g.S.TermStore.held c.args.store.now) (g.S.TermStore.held c.method_in.new.store) c.method_in.ensures.extends c.args.args.now c.args.us.now _
    c.args.params c.requires.args c.requires.us (c.as_slice.ensures.value ∙ c.in_ok-values.ensures) c.args.recursor _ _ c.args.codes.now c.requires.recursor
    c.in_ok-whole.ensures.makes.1)
    c.with_hypotheses_in.ensures.makes

pub returns-clause-full : goal.returns-clause-full
returns-clause-full g c =
    subst (IsFullFor (g.S.TermStore.held c.with_hypotheses_in.new.store) c.with_hypotheses_in.result)
    (iota-values (g.S.TermStore.held c.args.store.now) (g.S.TermStore.held c.method_in.new.store) c.method_in.ensures.extends c.args.args.now c.args.us.now _
    c.args.params c.requires.args c.requires.us (c.as_slice.ensures.value ∙ c.in_ok-values.ensures) c.args.recursor _ _ c.args.codes.now c.requires.recursor
    c.in_ok-whole.ensures.makes.1)
    c.with_hypotheses_in.ensures.full

pub returns-clause-adds : goal.returns-clause-adds
returns-clause-adds g c =
    let old = g.S.TermStore.held c.args.store.now in
    let p = c.args.params in
    let args = trees_of old c.args.args.now in
    let us = trees_of old c.args.us.now in
    let first = applied (get_or args c.args.at (Sort 0)) (drop p us) in
    let hypotheses = hypotheses_of (take p args ++ drop p us) p (old.tree c.args.recursor) p c.args.codes.now in
    parts-then old (g.S.TermStore.held c.method_in.new.store) (g.S.TermStore.held c.with_hypotheses_in.new.store) first (applied first hypotheses)
    (part-applied first hypotheses) c.method_in.ensures.adds c.with_hypotheses_in.ensures.extends
    (subst (AddsParts (g.S.TermStore.held c.method_in.new.store) (g.S.TermStore.held c.with_hypotheses_in.new.store))
    (iota-values (g.S.TermStore.held c.args.store.now) (g.S.TermStore.held c.method_in.new.store) c.method_in.ensures.extends c.args.args.now c.args.us.now _
    c.args.params c.requires.args c.requires.us (c.as_slice.ensures.value ∙ c.in_ok-values.ensures) c.args.recursor _ _ c.args.codes.now c.requires.recursor
    c.in_ok-whole.ensures.makes.1)
    c.with_hypotheses_in.ensures.adds)
