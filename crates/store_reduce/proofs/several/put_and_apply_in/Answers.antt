use Rattle.std.proofs.Common.{take, drop, ap₂, subst}
use Rattle.theory.specs.Substitutions.{fill, inst}
use Rattle.theory.specs.Telescopes.{applied}
use Rattle.theory.specs.Terms.{Var}
use Rattle.term_pool.specs.Held.{AddsParts, IsFullFor, Makes}
use Rattle.term_pool.specs.Instantiation.{trees_of}
use Rattle.term_pool.proofs.Instancing.{trees-kept, values-kept}
use Rattle.store_reduce.specs.Several.{filled_with}
use Rattle.store_reduce.proofs.ManySteps.{parts-more}
use Rattle.store_reduce.proofs.SpineLaws.{part-applied, parts-then}
use Rattle.store_reduce.proofs.ValueLaws.{values-live}
use Rattle.store_reduce.proofs.several.put_and_apply_in.Goals as goal

pub applied_behind_in-requires-clause-args : goal.applied_behind_in-requires-clause-args
applied_behind_in-requires-clause-args g c =
    let old = g.S.TermStore.held c.args.store.now in
    let mid = g.S.TermStore.held c.put_first_in.new.store in
    values-live mid c.args.args.now (values-kept old mid c.args.args.now c.put_first_in.ensures.extends c.requires.args)

pub returns-in_err-body-clause-adds : goal.returns-in_err-body-clause-adds
returns-in_err-body-clause-adds g c =
    let old = g.S.TermStore.held c.args.store.now in
    let us = trees_of old c.args.args.now in
    let first = inst (fill Var (take c.args.count us)) (old.tree c.args.body) in
    parts-more old (g.S.TermStore.held c.put_first_in.new.store) first (filled_with c.args.count (old.tree c.args.body) us)
    (part-applied first (drop c.args.count us)) c.put_first_in.ensures.adds

pub returns-clause-makes : goal.returns-clause-makes
returns-clause-makes g c =
    let old = g.S.TermStore.held c.args.store.now in
    let mid = g.S.TermStore.held c.put_first_in.new.store in
    subst (Makes (g.S.TermStore.held c.applied_behind_in.new.store) c.applied_behind_in.result)
    (ap₂ (λ b us. applied b (drop c.args.count us)) c.in_ok-body.ensures.makes.1 (trees-kept old mid c.args.args.now c.put_first_in.ensures.extends c.requires.args))
    c.applied_behind_in.ensures.makes

pub returns-clause-full : goal.returns-clause-full
returns-clause-full g c =
    let old = g.S.TermStore.held c.args.store.now in
    let mid = g.S.TermStore.held c.put_first_in.new.store in
    subst (IsFullFor (g.S.TermStore.held c.applied_behind_in.new.store) c.applied_behind_in.result)
    (ap₂ (λ b us. applied b (drop c.args.count us)) c.in_ok-body.ensures.makes.1 (trees-kept old mid c.args.args.now c.put_first_in.ensures.extends c.requires.args))
    c.applied_behind_in.ensures.full

pub returns-clause-adds : goal.returns-clause-adds
returns-clause-adds g c =
    let old = g.S.TermStore.held c.args.store.now in
    let mid = g.S.TermStore.held c.put_first_in.new.store in
    let new = g.S.TermStore.held c.applied_behind_in.new.store in
    let us = trees_of old c.args.args.now in
    let first = inst (fill Var (take c.args.count us)) (old.tree c.args.body) in
    parts-then old mid new first (filled_with c.args.count (old.tree c.args.body) us)
    (part-applied first (drop c.args.count us)) c.put_first_in.ensures.adds c.applied_behind_in.ensures.extends
    (subst (AddsParts mid new)
    (ap₂ (λ b us. applied b (drop c.args.count us)) c.in_ok-body.ensures.makes.1 (trees-kept old mid c.args.args.now c.put_first_in.ensures.extends c.requires.args))
    c.applied_behind_in.ensures.adds)
