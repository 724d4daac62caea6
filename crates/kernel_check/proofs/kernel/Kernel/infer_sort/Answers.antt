use Rattle.std.proofs.Common.{[], ◌∷◌, IfOk, length, sym, subst}
use Rattle.theory.specs.Telescopes.{context_behind}
use Rattle.theory.specs.Typing.{IsContext}
use Rattle.theory.specs.WellFormed.{IsTyped}
use Rattle.core_terms.specs.Answers.{Runs}
use Rattle.core_terms.specs.Meanings.{tree_of, tele_of, verdict_of}
use Rattle.kernel_reduce.specs.Reduction.{nesting}
use Rattle.kernel_reduce.specs.WellScoped.{AreWellScoped}
use Rattle.kernel_reduce.proofs.Runs.{runs-has}
use Rattle.kernel_check.specs.Checking.{infer_sort_of}
use Rattle.kernel_check.specs.Laws.{AreBothLow, HasUniverse, IfYes, IsScopedVerdict, IsSort}
use Rattle.kernel_check.proofs.AnswerHeights.{infer_sort-is_low, infer_sort-is_sort}
use Rattle.kernel_check.proofs.Given.{context-few, given-context, given-term}
use Rattle.kernel_check.proofs.Scoped.{infer_sort-scoped}
use Rattle.kernel_check.proofs.Soundness.{infer_sort-is_sound}
use Rattle.kernel_check.specs.Kernels.{Kernel}
use Rattle.kernel_check.proofs.KernelLayers.{kernel-goes}
use Rattle.kernel_check.proofs.Rooms.{runs-without_room}
use Rattle.kernel_check.proofs.kernel.Kernel.infer_sort.Goals as goal

pub infer_sort_written-requires-clause-ids : goal.infer_sort_written-requires-clause-ids
infer_sort_written-requires-clause-ids c = c.self.invariant.stored

pub infer_sort_written-requires-clause-asked : goal.infer_sort_written-requires-clause-asked
infer_sort_written-requires-clause-asked c =
    subst (λ types. AreWellScoped c.self.inside.sig.now (tele_of types) (tree_of c.args.t.now ∷ [])) (sym c.as_slice.ensures)
    (subst (λ (k : Kernel). AreWellScoped k.signature (tele_of c.args.ctx.now) (tree_of c.args.t.now ∷ [])) (sym c.self.view_is) c.requires)

pub invariant_of-self : goal.invariant_of-self
invariant_of-self c = kernel-goes c.self.inside.layer c.infer_sort_written.new.store c.self.inside.sig.now c.self.inside.ids.now c.infer_sort_written.ensures.extends c.self.invariant

pub returns-clause-answer : goal.returns-clause-answer
returns-clause-answer c =
    subst (λ (k : Kernel). Runs verdict_of c.without_room.result c.infer_sort_written.new.units.left (infer_sort_of k.signature nesting (context_behind [] (tele_of c.args.ctx.now)) (tree_of c.args.t.now) k.left)) c.self.view_is
    (subst (λ types. Runs verdict_of c.without_room.result c.infer_sort_written.new.units.left (infer_sort_of c.self.inside.sig.now nesting (context_behind [] (tele_of types)) (tree_of c.args.t.now) c.self.inside.units.left)) c.as_slice.ensures
    (runs-without_room verdict_of c.without_room.result c.infer_sort_written.result c.infer_sort_written.new.units.left _ c.without_room.ensures c.infer_sort_written.ensures.answer))

pub returns-clause-sound : goal.returns-clause-sound
returns-clause-sound c =
    subst (λ (k : Kernel). IsTyped k.signature → IsContext k.signature (context_behind [] (tele_of c.args.ctx.now)) → IfOk c.without_room.result (λ v. IfYes (verdict_of v) (HasUniverse k.signature (context_behind [] (tele_of c.args.ctx.now)) (tree_of c.args.t.now)))) c.self.view_is
    (λ typed context. runs-has verdict_of (λ v. IfYes v (HasUniverse c.self.inside.sig.now (context_behind [] (tele_of c.args.ctx.now)) (tree_of c.args.t.now))) c.without_room.result c.infer_sort_written.new.units.left (infer_sort_of c.self.inside.sig.now nesting (context_behind [] (tele_of c.args.ctx.now)) (tree_of c.args.t.now) c.self.inside.units.left) (subst (λ types. Runs verdict_of c.without_room.result c.infer_sort_written.new.units.left (infer_sort_of c.self.inside.sig.now nesting (context_behind [] (tele_of types)) (tree_of c.args.t.now) c.self.inside.units.left)) c.as_slice.ensures
    (runs-without_room verdict_of c.without_room.result c.infer_sort_written.result c.infer_sort_written.new.units.left _ c.without_room.ensures c.infer_sort_written.ensures.answer))
    (infer_sort-is_sound c.self.inside.sig.now typed nesting (context_behind [] (tele_of c.args.ctx.now)) (tree_of c.args.t.now) c.self.inside.units.left context))

pub returns-clause-scoped : goal.returns-clause-scoped
returns-clause-scoped c =
    let h : AreWellScoped c.self.inside.sig.now (tele_of c.args.ctx.now) (tree_of c.args.t.now ∷ []) = subst (λ (k : Kernel). AreWellScoped k.signature (tele_of c.args.ctx.now) (tree_of c.args.t.now ∷ [])) (sym c.self.view_is) c.requires in
    subst (λ (k : Kernel). IfOk c.without_room.result (λ v. IsScopedVerdict k.signature (length c.args.ctx.now) (verdict_of v))) c.self.view_is
    (subst (λ n. IfOk c.without_room.result (λ v. IsScopedVerdict c.self.inside.sig.now n (verdict_of v))) (context-few c.args.ctx.now)
    (runs-has verdict_of (IsScopedVerdict c.self.inside.sig.now (length (context_behind [] (tele_of c.args.ctx.now)))) c.without_room.result c.infer_sort_written.new.units.left (infer_sort_of c.self.inside.sig.now nesting (context_behind [] (tele_of c.args.ctx.now)) (tree_of c.args.t.now) c.self.inside.units.left) (subst (λ types. Runs verdict_of c.without_room.result c.infer_sort_written.new.units.left (infer_sort_of c.self.inside.sig.now nesting (context_behind [] (tele_of types)) (tree_of c.args.t.now) c.self.inside.units.left)) c.as_slice.ensures
    (runs-without_room verdict_of c.without_room.result c.infer_sort_written.result c.infer_sort_written.new.units.left _ c.without_room.ensures c.infer_sort_written.ensures.answer))
    (infer_sort-scoped c.self.inside.sig.now nesting (context_behind [] (tele_of c.args.ctx.now)) (tree_of c.args.t.now) c.self.inside.units.left h.signature (given-context c.args.ctx.now h) (given-term c.args.ctx.now h))))

pub returns-clause-low : goal.returns-clause-low
returns-clause-low c =
    runs-has verdict_of (λ v. IfYes v (AreBothLow (tree_of c.args.t.now))) c.without_room.result c.infer_sort_written.new.units.left (infer_sort_of c.self.inside.sig.now nesting (context_behind [] (tele_of c.args.ctx.now)) (tree_of c.args.t.now) c.self.inside.units.left) (subst (λ types. Runs verdict_of c.without_room.result c.infer_sort_written.new.units.left (infer_sort_of c.self.inside.sig.now nesting (context_behind [] (tele_of types)) (tree_of c.args.t.now) c.self.inside.units.left)) c.as_slice.ensures
    (runs-without_room verdict_of c.without_room.result c.infer_sort_written.result c.infer_sort_written.new.units.left _ c.without_room.ensures c.infer_sort_written.ensures.answer))
    (infer_sort-is_low c.self.inside.sig.now nesting (context_behind [] (tele_of c.args.ctx.now)) (tree_of c.args.t.now) c.self.inside.units.left)

pub returns-clause-sort : goal.returns-clause-sort
returns-clause-sort c =
    runs-has verdict_of (λ v. IfYes v IsSort) c.without_room.result c.infer_sort_written.new.units.left (infer_sort_of c.self.inside.sig.now nesting (context_behind [] (tele_of c.args.ctx.now)) (tree_of c.args.t.now) c.self.inside.units.left) (subst (λ types. Runs verdict_of c.without_room.result c.infer_sort_written.new.units.left (infer_sort_of c.self.inside.sig.now nesting (context_behind [] (tele_of types)) (tree_of c.args.t.now) c.self.inside.units.left)) c.as_slice.ensures
    (runs-without_room verdict_of c.without_room.result c.infer_sort_written.result c.infer_sort_written.new.units.left _ c.without_room.ensures c.infer_sort_written.ensures.answer))
    (infer_sort-is_sort c.self.inside.sig.now nesting (context_behind [] (tele_of c.args.ctx.now)) (tree_of c.args.t.now) c.self.inside.units.left)
