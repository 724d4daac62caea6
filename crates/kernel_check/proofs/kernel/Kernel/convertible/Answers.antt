use Rattle.std.proofs.Common.{IfOk, IsTrue, subst, [], ◌∷◌, sym}
use Rattle.theory.specs.Conversion.{Converts}
use Rattle.core_terms.specs.Answers.{Runs}
use Rattle.core_terms.specs.Meanings.{tree_of}
use Rattle.kernel_reduce.specs.Comparison.{convertible_of}
use Rattle.kernel_reduce.specs.Reduction.{nesting}
use Rattle.kernel_reduce.proofs.ComparisonLaws.{convertible-converts}
use Rattle.kernel_reduce.proofs.Runs.{runs-has}
use Rattle.kernel_reduce.specs.WellScoped.{CanReduce}
use Rattle.kernel_check.specs.Kernels.{Kernel}
use Rattle.kernel_check.proofs.KernelLayers.{kernel-goes}
use Rattle.kernel_check.proofs.Rooms.{runs-without_room}
use Rattle.kernel_check.proofs.kernel.Kernel.convertible.Goals as goal

pub convertible_written-requires-clause-ids : goal.convertible_written-requires-clause-ids
convertible_written-requires-clause-ids c = c.self.invariant.stored

pub convertible_written-requires-clause-asked : goal.convertible_written-requires-clause-asked
convertible_written-requires-clause-asked c =
    subst (λ (k : Kernel). CanReduce k.signature (tree_of c.args.a.now ∷ tree_of c.args.b.now ∷ [])) (sym c.self.view_is) c.requires

pub invariant_of-self : goal.invariant_of-self
invariant_of-self c = kernel-goes c.self.inside.layer c.convertible_written.new.store c.self.inside.sig.now c.self.inside.ids.now c.convertible_written.ensures.extends c.self.invariant

pub returns-clause-answer : goal.returns-clause-answer
returns-clause-answer c =
    subst (λ (k : Kernel). Runs (λ holds. holds) c.without_room.result c.convertible_written.new.units.left (convertible_of k.signature nesting (tree_of c.args.a.now) (tree_of c.args.b.now) k.left)) c.self.view_is
    (runs-without_room (λ holds. holds) c.without_room.result c.convertible_written.result c.convertible_written.new.units.left _ c.without_room.ensures c.convertible_written.ensures.answer)

pub returns-clause-sound : goal.returns-clause-sound
returns-clause-sound c =
    subst (λ (k : Kernel). IfOk c.without_room.result (λ holds. IsTrue holds → Converts k.signature (tree_of c.args.a.now) (tree_of c.args.b.now))) c.self.view_is
    (runs-has (λ holds. holds) (λ holds. IsTrue holds → Converts c.self.inside.sig.now (tree_of c.args.a.now) (tree_of c.args.b.now)) c.without_room.result c.convertible_written.new.units.left (convertible_of c.self.inside.sig.now nesting (tree_of c.args.a.now) (tree_of c.args.b.now) c.self.inside.units.left) (runs-without_room (λ holds. holds) c.without_room.result c.convertible_written.result c.convertible_written.new.units.left _ c.without_room.ensures c.convertible_written.ensures.answer)
    (convertible-converts c.self.inside.sig.now 2000 (tree_of c.args.a.now) (tree_of c.args.b.now) c.self.inside.units.left))
