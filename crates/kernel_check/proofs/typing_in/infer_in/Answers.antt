use Rattle.std.proofs.Common.{[], IfOk, length, map, subst as transport}
use Rattle.theory.specs.Telescopes.{context_behind}
use Rattle.kernel_reduce.specs.Reduction.{nesting}
use Rattle.store_reduce.specs.Additions.{AddsOnly, IsFullOf}
use Rattle.store_reduce.specs.Runs.{RunsIn}
use Rattle.store_reduce.proofs.StoreRuns.{runs_in-has}
use Rattle.kernel_check.specs.Asked.{IsCheckedPart}
use Rattle.kernel_check.specs.Checking.{infer_of}
use Rattle.kernel_check.specs.Laws.{HasType, IfYes, IsScopedVerdict}
use Rattle.kernel_check.specs.Verdicts.{verdict_in}
use Rattle.kernel_check.proofs.Given.{can-given_ids, given_ids-context, given_ids-term, given_ids-length}
use Rattle.kernel_check.proofs.Scoped.{infer-scoped}
use Rattle.kernel_check.proofs.Soundness.{infer-is_sound}
use Rattle.kernel_check.proofs.typing_in.infer_in.Goals as goal

pub infer_at-requires-clause-can : goal.infer_at-requires-clause-can
infer_at-requires-clause-can g c =
    can-given_ids (g.S.TermStore.held c.args.store.now) c.as_slice.result c.args.ctx.now c.as_slice.ensures c.requires.context_live c.requires.asked

pub returns-clause-answer : goal.returns-clause-answer
returns-clause-answer g c =
    let old = g.S.TermStore.held c.args.store.now in
    let new = g.S.TermStore.held c.infer_at.new.store in
    transport
    (λ xs. RunsIn (verdict_in new.tree) c.infer_at.result c.infer_at.new.units.left (infer_of c.args.sig.now nesting (context_behind [] (map old.tree xs)) (old.tree c.args.t) c.args.units.now.left))
    c.as_slice.ensures c.infer_at.ensures.answer

pub returns-clause-adds : goal.returns-clause-adds
returns-clause-adds g c =
    let old = g.S.TermStore.held c.args.store.now in
    let new = g.S.TermStore.held c.infer_at.new.store in
    transport (λ xs. AddsOnly (IsCheckedPart c.args.sig.now (context_behind [] (map old.tree xs)) (old.tree c.args.t)) old new) c.as_slice.ensures c.infer_at.ensures.adds

pub returns-clause-full : goal.returns-clause-full
returns-clause-full g c =
    let old = g.S.TermStore.held c.args.store.now in
    let new = g.S.TermStore.held c.infer_at.new.store in
    transport (λ xs. IsFullOf (IsCheckedPart c.args.sig.now (context_behind [] (map old.tree xs)) (old.tree c.args.t)) new c.infer_at.result) c.as_slice.ensures c.infer_at.ensures.full

pub returns-clause-sound : goal.returns-clause-sound
returns-clause-sound g c = λ typed context.
    let old = g.S.TermStore.held c.args.store.now in
    let G = context_behind [] (map old.tree c.args.ctx.now) in
    runs_in-has (verdict_in (g.S.TermStore.held c.infer_at.new.store).tree) (λ v. IfYes v (HasType c.args.sig.now G (old.tree c.args.t))) _ _ _ (returns-clause-answer g c)
    (infer-is_sound c.args.sig.now typed nesting G (old.tree c.args.t) c.args.units.now.left context)

pub returns-clause-scoped : goal.returns-clause-scoped
returns-clause-scoped g c =
    let old = g.S.TermStore.held c.args.store.now in
    let G = context_behind [] (map old.tree c.args.ctx.now) in
    transport (λ n. IfOk c.infer_at.result (λ v. IsScopedVerdict c.args.sig.now n (verdict_in (g.S.TermStore.held c.infer_at.new.store).tree v))) (given_ids-length old c.args.ctx.now)
    (runs_in-has (verdict_in (g.S.TermStore.held c.infer_at.new.store).tree) (IsScopedVerdict c.args.sig.now (length G)) _ _ _ (returns-clause-answer g c)
    (infer-scoped c.args.sig.now nesting G (old.tree c.args.t) c.args.units.now.left c.requires.asked.signature (given_ids-context old c.args.ctx.now c.requires.asked)
    (given_ids-term old c.args.ctx.now c.requires.asked)))
