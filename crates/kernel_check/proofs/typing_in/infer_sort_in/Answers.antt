use Rattle.std.proofs.Common.{[], IfOk, length, map, subst as transport}
use Rattle.theory.specs.Telescopes.{context_behind}
use Rattle.kernel_reduce.specs.Reduction.{nesting}
use Rattle.store_reduce.specs.Additions.{AddsOnly, IsFullOf}
use Rattle.store_reduce.specs.Runs.{RunsIn}
use Rattle.store_reduce.proofs.StoreRuns.{runs_in-has}
use Rattle.kernel_check.specs.Asked.{IsCheckedPart}
use Rattle.kernel_check.specs.Checking.{infer_sort_of}
use Rattle.kernel_check.specs.Laws.{HasUniverse, IfYes, IsSort, IsScopedVerdict}
use Rattle.kernel_check.specs.Verdicts.{verdict_in}
use Rattle.kernel_check.proofs.AnswerHeights.{infer_sort-is_sort}
use Rattle.kernel_check.proofs.Given.{can-given_ids, given_ids-context, given_ids-term, given_ids-length}
use Rattle.kernel_check.proofs.Scoped.{infer_sort-scoped}
use Rattle.kernel_check.proofs.Soundness.{infer_sort-is_sound}
use Rattle.kernel_check.proofs.typing_in.infer_sort_in.Goals as goal

pub infer_sort_at-requires-clause-can : goal.infer_sort_at-requires-clause-can
infer_sort_at-requires-clause-can g c =
    can-given_ids (g.S.TermStore.held c.args.store.now) c.as_slice.result c.args.ctx.now c.as_slice.ensures c.requires.context_live c.requires.asked

pub returns-clause-answer : goal.returns-clause-answer
returns-clause-answer g c =
    let old = g.S.TermStore.held c.args.store.now in
    let new = g.S.TermStore.held c.infer_sort_at.new.store in
    transport
    (λ xs. RunsIn (verdict_in new.tree) c.infer_sort_at.result c.infer_sort_at.new.units.left (infer_sort_of c.args.sig.now nesting (context_behind [] (map old.tree xs)) (old.tree c.args.t) c.args.units.now.left))
    c.as_slice.ensures c.infer_sort_at.ensures.answer

pub returns-clause-adds : goal.returns-clause-adds
returns-clause-adds g c =
    let old = g.S.TermStore.held c.args.store.now in
    let new = g.S.TermStore.held c.infer_sort_at.new.store in
    transport (λ xs. AddsOnly (IsCheckedPart c.args.sig.now (context_behind [] (map old.tree xs)) (old.tree c.args.t)) old new) c.as_slice.ensures c.infer_sort_at.ensures.adds

pub returns-clause-full : goal.returns-clause-full
returns-clause-full g c =
    let old = g.S.TermStore.held c.args.store.now in
    let new = g.S.TermStore.held c.infer_sort_at.new.store in
    transport (λ xs. IsFullOf (IsCheckedPart c.args.sig.now (context_behind [] (map old.tree xs)) (old.tree c.args.t)) new c.infer_sort_at.result) c.as_slice.ensures c.infer_sort_at.ensures.full

pub returns-clause-sound : goal.returns-clause-sound
returns-clause-sound g c = λ typed context.
    let old = g.S.TermStore.held c.args.store.now in
    let G = context_behind [] (map old.tree c.args.ctx.now) in
    runs_in-has (verdict_in (g.S.TermStore.held c.infer_sort_at.new.store).tree) (λ v. IfYes v (HasUniverse c.args.sig.now G (old.tree c.args.t))) _ _ _ (returns-clause-answer g c)
    (infer_sort-is_sound c.args.sig.now typed nesting G (old.tree c.args.t) c.args.units.now.left context)

pub returns-clause-scoped : goal.returns-clause-scoped
returns-clause-scoped g c =
    let old = g.S.TermStore.held c.args.store.now in
    let G = context_behind [] (map old.tree c.args.ctx.now) in
    transport (λ n. IfOk c.infer_sort_at.result (λ v. IsScopedVerdict c.args.sig.now n (verdict_in (g.S.TermStore.held c.infer_sort_at.new.store).tree v))) (given_ids-length old c.args.ctx.now)
    (runs_in-has (verdict_in (g.S.TermStore.held c.infer_sort_at.new.store).tree) (IsScopedVerdict c.args.sig.now (length G)) _ _ _ (returns-clause-answer g c)
    (infer_sort-scoped c.args.sig.now nesting G (old.tree c.args.t) c.args.units.now.left c.requires.asked.signature (given_ids-context old c.args.ctx.now c.requires.asked)
    (given_ids-term old c.args.ctx.now c.requires.asked)))

pub returns-clause-sort : goal.returns-clause-sort
returns-clause-sort g c =
    let old = g.S.TermStore.held c.args.store.now in
    runs_in-has (verdict_in (g.S.TermStore.held c.infer_sort_at.new.store).tree) (λ v. IfYes v IsSort) _ _ _ (returns-clause-answer g c)
    (infer_sort-is_sort c.args.sig.now nesting (context_behind [] (map old.tree c.args.ctx.now)) (old.tree c.args.t) c.args.units.now.left)
