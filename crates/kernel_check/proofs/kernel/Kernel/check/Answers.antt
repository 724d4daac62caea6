use Rattle.std.proofs.Common.{[], ◌∷◌, IfOk, length, sym, subst}
use Rattle.theory.specs.Telescopes.{context_behind}
use Rattle.theory.specs.Typing.{IsContext, IsType}
use Rattle.theory.specs.WellFormed.{IsTyped}
use Rattle.core_terms.specs.Answers.{Runs}
use Rattle.core_terms.specs.Meanings.{tree_of, tele_of, verdict_of}
use Rattle.kernel_reduce.specs.Reduction.{nesting}
use Rattle.kernel_reduce.specs.WellScoped.{AreWellScoped}
use Rattle.kernel_reduce.proofs.Runs.{runs-has}
use Rattle.kernel_reduce.proofs.WellScoped.{without_first}
use Rattle.kernel_check.specs.Checking.{check_of}
use Rattle.kernel_check.specs.Laws.{AreBothLow, HasWanted, IfYes, IsScopedVerdict}
use Rattle.kernel_check.proofs.AnswerHeights.{check-is_low}
use Rattle.kernel_check.proofs.Given.{context-few, given-context, given-term}
use Rattle.kernel_check.proofs.Scoped.{check-scoped}
use Rattle.kernel_check.proofs.Soundness.{check-is_sound}
use Rattle.kernel_check.specs.Kernels.{Kernel}
use Rattle.kernel_check.proofs.KernelLayers.{kernel-goes}
use Rattle.kernel_check.proofs.Rooms.{runs-without_room}
use Rattle.kernel_check.proofs.kernel.Kernel.check.Goals as goal

pub check_written-requires-clause-ids : goal.check_written-requires-clause-ids
check_written-requires-clause-ids c = c.self.invariant.stored

pub check_written-requires-clause-asked : goal.check_written-requires-clause-asked
check_written-requires-clause-asked c =
    subst (λ types. AreWellScoped c.self.inside.sig.now (tele_of types) (tree_of c.args.t.now ∷ tree_of c.args.wanted.now ∷ [])) (sym c.as_slice.ensures)
    (subst (λ (k : Kernel). AreWellScoped k.signature (tele_of c.args.ctx.now) (tree_of c.args.t.now ∷ tree_of c.args.wanted.now ∷ [])) (sym c.self.view_is) c.requires)

pub invariant_of-self : goal.invariant_of-self
invariant_of-self c = kernel-goes c.self.inside.layer c.check_written.new.store c.self.inside.sig.now c.self.inside.ids.now c.check_written.ensures.extends c.self.invariant

pub returns-clause-answer : goal.returns-clause-answer
returns-clause-answer c =
    subst (λ (k : Kernel). Runs verdict_of c.without_room.result c.check_written.new.units.left (check_of k.signature nesting (context_behind [] (tele_of c.args.ctx.now)) (tree_of c.args.t.now) (tree_of c.args.wanted.now) k.left)) c.self.view_is
    (subst (λ types. Runs verdict_of c.without_room.result c.check_written.new.units.left (check_of c.self.inside.sig.now nesting (context_behind [] (tele_of types)) (tree_of c.args.t.now) (tree_of c.args.wanted.now) c.self.inside.units.left)) c.as_slice.ensures
    (runs-without_room verdict_of c.without_room.result c.check_written.result c.check_written.new.units.left _ c.without_room.ensures c.check_written.ensures.answer))

pub returns-clause-sound : goal.returns-clause-sound
returns-clause-sound c =
    subst (λ (k : Kernel). IsTyped k.signature → IsContext k.signature (context_behind [] (tele_of c.args.ctx.now)) → IsType k.signature (context_behind [] (tele_of c.args.ctx.now)) (tree_of c.args.wanted.now) → IfOk c.without_room.result (λ v. IfYes (verdict_of v) (HasWanted k.signature (context_behind [] (tele_of c.args.ctx.now)) (tree_of c.args.t.now) (tree_of c.args.wanted.now)))) c.self.view_is
    (λ typed context wanted. runs-has verdict_of (λ v. IfYes v (HasWanted c.self.inside.sig.now (context_behind [] (tele_of c.args.ctx.now)) (tree_of c.args.t.now) (tree_of c.args.wanted.now))) c.without_room.result c.check_written.new.units.left (check_of c.self.inside.sig.now nesting (context_behind [] (tele_of c.args.ctx.now)) (tree_of c.args.t.now) (tree_of c.args.wanted.now) c.self.inside.units.left) (subst (λ types. Runs verdict_of c.without_room.result c.check_written.new.units.left (check_of c.self.inside.sig.now nesting (context_behind [] (tele_of types)) (tree_of c.args.t.now) (tree_of c.args.wanted.now) c.self.inside.units.left)) c.as_slice.ensures
    (runs-without_room verdict_of c.without_room.result c.check_written.result c.check_written.new.units.left _ c.without_room.ensures c.check_written.ensures.answer))
    (check-is_sound c.self.inside.sig.now typed nesting (context_behind [] (tele_of c.args.ctx.now)) (tree_of c.args.t.now) (tree_of c.args.wanted.now) c.self.inside.units.left context wanted))

pub returns-clause-scoped : goal.returns-clause-scoped
returns-clause-scoped c =
    let h : AreWellScoped c.self.inside.sig.now (tele_of c.args.ctx.now) (tree_of c.args.t.now ∷ tree_of c.args.wanted.now ∷ []) = subst (λ (k : Kernel). AreWellScoped k.signature (tele_of c.args.ctx.now) (tree_of c.args.t.now ∷ tree_of c.args.wanted.now ∷ [])) (sym c.self.view_is) c.requires in
    subst (λ (k : Kernel). IfOk c.without_room.result (λ v. IsScopedVerdict k.signature (length c.args.ctx.now) (verdict_of v))) c.self.view_is
    (subst (λ n. IfOk c.without_room.result (λ v. IsScopedVerdict c.self.inside.sig.now n (verdict_of v))) (context-few c.args.ctx.now)
    (runs-has verdict_of (IsScopedVerdict c.self.inside.sig.now (length (context_behind [] (tele_of c.args.ctx.now)))) c.without_room.result c.check_written.new.units.left (check_of c.self.inside.sig.now nesting (context_behind [] (tele_of c.args.ctx.now)) (tree_of c.args.t.now) (tree_of c.args.wanted.now) c.self.inside.units.left) (subst (λ types. Runs verdict_of c.without_room.result c.check_written.new.units.left (check_of c.self.inside.sig.now nesting (context_behind [] (tele_of types)) (tree_of c.args.t.now) (tree_of c.args.wanted.now) c.self.inside.units.left)) c.as_slice.ensures
    (runs-without_room verdict_of c.without_room.result c.check_written.result c.check_written.new.units.left _ c.without_room.ensures c.check_written.ensures.answer))
    (check-scoped c.self.inside.sig.now nesting (context_behind [] (tele_of c.args.ctx.now)) (tree_of c.args.t.now) (tree_of c.args.wanted.now) c.self.inside.units.left h.signature (given-context c.args.ctx.now h) (given-term c.args.ctx.now h) (given-term c.args.ctx.now (without_first h)))))

pub returns-clause-low : goal.returns-clause-low
returns-clause-low c =
    runs-has verdict_of (λ v. IfYes v (AreBothLow (tree_of c.args.t.now))) c.without_room.result c.check_written.new.units.left (check_of c.self.inside.sig.now nesting (context_behind [] (tele_of c.args.ctx.now)) (tree_of c.args.t.now) (tree_of c.args.wanted.now) c.self.inside.units.left) (subst (λ types. Runs verdict_of c.without_room.result c.check_written.new.units.left (check_of c.self.inside.sig.now nesting (context_behind [] (tele_of types)) (tree_of c.args.t.now) (tree_of c.args.wanted.now) c.self.inside.units.left)) c.as_slice.ensures
    (runs-without_room verdict_of c.without_room.result c.check_written.result c.check_written.new.units.left _ c.without_room.ensures c.check_written.ensures.answer))
    (check-is_low c.self.inside.sig.now nesting (context_behind [] (tele_of c.args.ctx.now)) (tree_of c.args.t.now) (tree_of c.args.wanted.now) c.self.inside.units.left)
