use Rattle.std.proofs.Common.{ℕ, sym, subst as transport}
use Rattle.core_terms.specs.Answers.{Runs}
use Rattle.core_terms.specs.Meanings.{tree_of, tele_of}
use Rattle.kernel_check.specs.Kernels.{Kernel}
use Rattle.with_abstraction.specs.Abstractions.{abstract_over_of}
use Rattle.with_abstraction.specs.Meanings.{abstracted_of}
use Rattle.with_abstraction.proofs.abstracting.abstract_over.Goals as goal

pub returns-clause-answer : goal.returns-clause-answer
returns-clause-answer c =
    let P : ℕ → Kernel → Type 0 = λ left k. Runs abstracted_of c.abstract_over_with-made.result left
    (abstract_over_of k.signature (tele_of c.args.ctx.now) (tree_of c.args.goal.now) (tree_of c.args.scrutinee.now) (tree_of c.args.ty.now) k.left) in
    transport (P c.into_units.result.left) c.new-kernel.ensures
    (transport (λ left. P left c.new-kernel.result) (sym c.into_units.ensures.left) c.abstract_over_with-made.ensures.answer)
