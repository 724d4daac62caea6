use Rattle.std.proofs.Common.{ap}
use Rattle.core_terms.specs.Meanings.{tree_of, tele_of}
use Rattle.function_checks.specs.declared.function_refusals.refusal.FunctionRefusal.TheVariants as refused
use Rattle.function_checks.proofs.walk_checks.Chains.{halting-ok, halting-err}
use Rattle.with_abstraction.specs.Abstractions.{abstract_over_of}
use Rattle.with_abstraction.specs.Meanings.{abstracted_of}
use Rattle.function_checks.proofs.walk_checks.opening.abstracted.Goals as goal

pub returns-in-Ok-clause-answer : goal.returns-in-Ok-clause-answer
returns-in-Ok-clause-answer c =
    let w = c.args.w.now in
    halting-ok (abstracted_of c.in-Ok.a) c.abstract_over_with.new.kernel.left
    (abstract_over_of c.args.kernel.now.signature (tele_of w.ctx) (tree_of w.goal) (tree_of c.args.t.now) (tree_of c.args.ty.now) c.args.kernel.now.left)
    c.in-Ok.ensures.answer

pub returns-in-Err-clause-answer : goal.returns-in-Err-clause-answer
returns-in-Err-clause-answer c =
    let w = c.args.w.now in
    λ other.
    halting-err c.in-Err.e c.abstract_over_with.new.kernel.left
    (abstract_over_of c.args.kernel.now.signature (tele_of w.ctx) (tree_of w.goal) (tree_of c.args.t.now) (tree_of c.args.ty.now) c.args.kernel.now.left)
    (c.in-Err.ensures.answer (λ is. other (ap refused.Stop is)))
