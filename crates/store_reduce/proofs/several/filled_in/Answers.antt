use Rattle.std.proofs.Common.{length, sym, ap, ◌∙◌, subst, arith}
use Rattle.term_pool.specs.Held.{AddsParts, IsFullFor, Makes}
use Rattle.term_pool.specs.Instantiation.{trees_of}
use Rattle.store_reduce.specs.Arguments.{AreLive}
use Rattle.store_reduce.specs.Several.{filled_with}
use Rattle.store_reduce.proofs.ValueLaws.{arguments-values, trees-count}
use Rattle.store_reduce.proofs.several.filled_in.Goals as goal

pub put_and_apply_in-requires-clause-args : goal.put_and_apply_in-requires-clause-args
put_and_apply_in-requires-clause-args g c =
    let held = g.S.TermStore.held c.args.store.now in
    arguments-values held _ (held.tree c.args.t) (subst (AreLive held) (sym c.as_slice.ensures.value) c.in_ok-args.ensures.live)
    (ap (trees_of held) c.as_slice.ensures.value ∙ c.in_ok-args.ensures.answer) c.requires.free

pub put_and_apply_in-requires-clause-count : goal.put_and_apply_in-requires-clause-count
put_and_apply_in-requires-clause-count g c =
    let held = g.S.TermStore.held c.args.store.now in
    omega (
      arith,
      c.requires.few,
      ap length (ap (trees_of held) c.as_slice.ensures.value ∙ c.in_ok-args.ensures.answer),
      trees-count held c.as_slice.result.now,
    )

pub returns-clause-makes : goal.returns-clause-makes
returns-clause-makes g c =
    let old = g.S.TermStore.held c.args.store.now in
    subst (λ us. Makes (g.S.TermStore.held c.put_and_apply_in.new.store) c.put_and_apply_in.result (filled_with c.args.filling.filled (old.tree c.args.filling.body) us))
    (ap (trees_of old) c.as_slice.ensures.value ∙ c.in_ok-args.ensures.answer) c.put_and_apply_in.ensures.makes

pub returns-clause-full : goal.returns-clause-full
returns-clause-full g c =
    let old = g.S.TermStore.held c.args.store.now in
    subst (λ us. IsFullFor (g.S.TermStore.held c.put_and_apply_in.new.store) c.put_and_apply_in.result (filled_with c.args.filling.filled (old.tree c.args.filling.body) us))
    (ap (trees_of old) c.as_slice.ensures.value ∙ c.in_ok-args.ensures.answer) c.put_and_apply_in.ensures.full

pub returns-clause-adds : goal.returns-clause-adds
returns-clause-adds g c =
    let old = g.S.TermStore.held c.args.store.now in
    subst (λ us. AddsParts old (g.S.TermStore.held c.put_and_apply_in.new.store) (filled_with c.args.filling.filled (old.tree c.args.filling.body) us))
    (ap (trees_of old) c.as_slice.ensures.value ∙ c.in_ok-args.ensures.answer) c.put_and_apply_in.ensures.adds
