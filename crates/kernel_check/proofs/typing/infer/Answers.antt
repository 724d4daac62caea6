use Rattle.std.proofs.Common.{ℕ, [], IfOk, sym, subst as transport}
use Rattle.theory.specs.Telescopes.{context_behind}
use Rattle.theory.specs.Typing.{IsContext}
use Rattle.theory.specs.WellFormed.{IsTyped}
use Rattle.core_terms.specs.Answers.{Runs}
use Rattle.core_terms.specs.Meanings.{tree_of, tele_of, verdict_of}
use Rattle.kernel_reduce.specs.Reduction.{nesting}
use Rattle.kernel_check.specs.Checking.{infer_of}
use Rattle.kernel_check.specs.Kernels.{Kernel}
use Rattle.kernel_check.specs.Laws.{HasType, IfYes}
use Rattle.kernel_check.proofs.typing.infer.Goals as goal

pub returns-clause-answer : goal.returns-clause-answer
returns-clause-answer c =
    let P : ℕ → Kernel → Type 0 = λ left k. Runs verdict_of c.infer-verdict.result left (infer_of k.signature nesting (context_behind [] (tele_of c.args.ctx.now)) (tree_of c.args.t.now) k.left) in
    transport (P c.into_units.result.left) c.new-kernel.ensures
    (transport (λ left. P left c.new-kernel.result) (sym c.into_units.ensures.left) c.infer-verdict.ensures.answer)

pub returns-clause-sound : goal.returns-clause-sound
returns-clause-sound c =
    transport (λ (k : Kernel). IsTyped k.signature → IsContext k.signature (context_behind [] (tele_of c.args.ctx.now)) → IfOk c.infer-verdict.result (λ v. IfYes (verdict_of v) (HasType k.signature (context_behind [] (tele_of c.args.ctx.now)) (tree_of c.args.t.now))))
    c.new-kernel.ensures c.infer-verdict.ensures.sound
