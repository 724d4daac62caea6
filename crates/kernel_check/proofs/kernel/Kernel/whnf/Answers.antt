use Rattle.std.proofs.Common.{ℕ, true, IfOk, subst, [], ◌∷◌, sym}
use Rattle.theory.specs.SignatureScopes.{IsScoped}
use Rattle.core_terms.specs.Answers.{Runs}
use Rattle.core_terms.specs.Meanings.{tree_of}
use Rattle.kernel_reduce.specs.Laws.{IsHeadForm}
use Rattle.kernel_reduce.specs.Reduction.{whnf_of}
use Rattle.kernel_reduce.proofs.ReductionLaws.{whnf-is_head_form}
use Rattle.kernel_reduce.proofs.Runs.{runs-has}
use Rattle.kernel_reduce.proofs.ScopedReduction.{whnf-scoped}
use Rattle.kernel_reduce.specs.WellScoped.{CanReduce}
use Rattle.kernel_check.specs.Kernels.{Kernel}
use Rattle.kernel_check.proofs.KernelLayers.{kernel-goes}
use Rattle.kernel_check.proofs.Rooms.{runs-without_room}
use Rattle.kernel_check.proofs.kernel.Kernel.whnf.Goals as goal

pub whnf_written-requires-clause-ids : goal.whnf_written-requires-clause-ids
whnf_written-requires-clause-ids c = c.self.invariant.stored

pub whnf_written-requires-clause-asked : goal.whnf_written-requires-clause-asked
whnf_written-requires-clause-asked c =
    subst (λ (k : Kernel). CanReduce k.signature (tree_of c.args.t.now ∷ [])) (sym c.self.view_is) c.requires

pub invariant_of-self : goal.invariant_of-self
invariant_of-self c = kernel-goes c.self.inside.layer c.whnf_written.new.store c.self.inside.sig.now c.self.inside.ids.now c.whnf_written.ensures.extends c.self.invariant

pub returns-clause-answer : goal.returns-clause-answer
returns-clause-answer c =
    subst (λ (k : Kernel). Runs tree_of c.without_room.result c.whnf_written.new.units.left (whnf_of k.signature true k.left (tree_of c.args.t.now))) c.self.view_is
    (runs-without_room tree_of c.without_room.result c.whnf_written.result c.whnf_written.new.units.left _ c.without_room.ensures c.whnf_written.ensures.answer)

pub returns-clause-form : goal.returns-clause-form
returns-clause-form c =
    subst (λ (k : Kernel). IfOk c.without_room.result (λ u. IsHeadForm k.signature true (tree_of c.args.t.now) (tree_of u))) c.self.view_is
    (runs-has tree_of (IsHeadForm c.self.inside.sig.now true (tree_of c.args.t.now)) c.without_room.result c.whnf_written.new.units.left (whnf_of c.self.inside.sig.now true c.self.inside.units.left (tree_of c.args.t.now)) (runs-without_room tree_of c.without_room.result c.whnf_written.result c.whnf_written.new.units.left _ c.without_room.ensures c.whnf_written.ensures.answer)
    (whnf-is_head_form c.self.inside.sig.now true c.self.inside.units.left (tree_of c.args.t.now)))

pub returns-clause-scoped : goal.returns-clause-scoped
returns-clause-scoped c =
    subst (λ (k : Kernel). (n : ℕ) → IsScoped k.signature n (tree_of c.args.t.now) → IfOk c.without_room.result (λ u. IsScoped k.signature n (tree_of u))) c.self.view_is
    (λ n h. runs-has tree_of (IsScoped c.self.inside.sig.now n) c.without_room.result c.whnf_written.new.units.left (whnf_of c.self.inside.sig.now true c.self.inside.units.left (tree_of c.args.t.now)) (runs-without_room tree_of c.without_room.result c.whnf_written.result c.whnf_written.new.units.left _ c.without_room.ensures c.whnf_written.ensures.answer)
    (whnf-scoped c.self.inside.sig.now true c.self.inside.units.left n (tree_of c.args.t.now) c.self.invariant.scoped h))
