use Rattle.std.proofs.Common.{◌≤◌, ℕ, IfOk, subst, [], ◌∷◌, sym}
use Rattle.std.proofs.lemmas.Result.{IfOk-weaker}
use Rattle.theory.specs.Conversion.{Converts}
use Rattle.theory.specs.SignatureScopes.{IsScoped}
use Rattle.theory.specs.Terms.{height}
use Rattle.core_terms.specs.Answers.{Runs}
use Rattle.core_terms.specs.Meanings.{tree_of}
use Rattle.kernel_reduce.specs.Reduction.{nesting, normal_of}
use Rattle.kernel_reduce.proofs.ReductionLaws.{normal-converts}
use Rattle.kernel_reduce.proofs.Runs.{runs-has}
use Rattle.kernel_reduce.proofs.ScopedReduction.{normal-scoped}
use Rattle.kernel_reduce.specs.WellScoped.{CanReduce}
use Rattle.kernel_check.specs.Kernels.{Kernel}
use Rattle.kernel_check.proofs.KernelLayers.{kernel-goes}
use Rattle.kernel_check.proofs.Rooms.{runs-without_room}
use Rattle.kernel_check.proofs.kernel.Kernel.normal.Goals as goal

pub normal_written-requires-clause-ids : goal.normal_written-requires-clause-ids
normal_written-requires-clause-ids c = c.self.invariant.stored

pub normal_written-requires-clause-asked : goal.normal_written-requires-clause-asked
normal_written-requires-clause-asked c =
    subst (λ (k : Kernel). CanReduce k.signature (tree_of c.args.t.now ∷ [])) (sym c.self.view_is) c.requires

pub invariant_of-self : goal.invariant_of-self
invariant_of-self c = kernel-goes c.self.inside.layer c.normal_written.new.store c.self.inside.sig.now c.self.inside.ids.now c.normal_written.ensures.extends c.self.invariant

pub returns-clause-answer : goal.returns-clause-answer
returns-clause-answer c =
    subst (λ (k : Kernel). Runs tree_of c.without_room.result c.normal_written.new.units.left (normal_of k.signature c.args.delta nesting (tree_of c.args.t.now) k.left)) c.self.view_is
    (runs-without_room tree_of c.without_room.result c.normal_written.result c.normal_written.new.units.left _ c.without_room.ensures c.normal_written.ensures.answer)

pub returns-clause-converts : goal.returns-clause-converts
returns-clause-converts c =
    subst (λ (k : Kernel). IfOk c.without_room.result (λ u. Converts k.signature (tree_of c.args.t.now) (tree_of u))) c.self.view_is
    (runs-has tree_of (Converts c.self.inside.sig.now (tree_of c.args.t.now)) c.without_room.result c.normal_written.new.units.left (normal_of c.self.inside.sig.now c.args.delta nesting (tree_of c.args.t.now) c.self.inside.units.left) (runs-without_room tree_of c.without_room.result c.normal_written.result c.normal_written.new.units.left _ c.without_room.ensures c.normal_written.ensures.answer)
    (IfOk-weaker _ (λ u. Converts c.self.inside.sig.now (tree_of c.args.t.now) u × (height u ≤ 2000)) (λ u. Converts c.self.inside.sig.now (tree_of c.args.t.now) u) (λ u h. h.0) (normal-converts c.self.inside.sig.now c.args.delta 2000 (tree_of c.args.t.now) c.self.inside.units.left)))

pub returns-clause-low : goal.returns-clause-low
returns-clause-low c =
    runs-has tree_of (λ u. height u ≤ 2000) c.without_room.result c.normal_written.new.units.left (normal_of c.self.inside.sig.now c.args.delta nesting (tree_of c.args.t.now) c.self.inside.units.left) (runs-without_room tree_of c.without_room.result c.normal_written.result c.normal_written.new.units.left _ c.without_room.ensures c.normal_written.ensures.answer)
    (IfOk-weaker _ (λ u. Converts c.self.inside.sig.now (tree_of c.args.t.now) u × (height u ≤ 2000)) (λ u. height u ≤ 2000) (λ u h. h.1) (normal-converts c.self.inside.sig.now c.args.delta 2000 (tree_of c.args.t.now) c.self.inside.units.left))

pub returns-clause-scoped : goal.returns-clause-scoped
returns-clause-scoped c =
    subst (λ (k : Kernel). (n : ℕ) → IsScoped k.signature n (tree_of c.args.t.now) → IfOk c.without_room.result (λ u. IsScoped k.signature n (tree_of u))) c.self.view_is
    (λ n h. runs-has tree_of (IsScoped c.self.inside.sig.now n) c.without_room.result c.normal_written.new.units.left (normal_of c.self.inside.sig.now c.args.delta nesting (tree_of c.args.t.now) c.self.inside.units.left) (runs-without_room tree_of c.without_room.result c.normal_written.result c.normal_written.new.units.left _ c.without_room.ensures c.normal_written.ensures.answer)
    (normal-scoped c.self.inside.sig.now c.args.delta 2000 n (tree_of c.args.t.now) c.self.inside.units.left c.self.invariant.scoped h))
