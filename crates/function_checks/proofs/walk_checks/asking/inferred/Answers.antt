use Rattle.std.proofs.Common.{ap}
use Rattle.core_terms.specs.Meanings.{tree_of, tele_of}
use Rattle.function_checks.specs.function_refusals.RefusalMeanings.{refusal_of}
use Rattle.function_checks.specs.declared.function_refusals.refusal.FunctionRefusal.TheVariants as refused
use Rattle.kernel_check.specs.Checking.{infer_of}
use Rattle.kernel_check.proofs.Contexts.{context-reverse}
use Rattle.kernel_reduce.specs.Reduction.{nesting}
use Rattle.function_checks.specs.walk_checks.CheckMeanings.{asked_of, site_of}
use Rattle.function_checks.proofs.walk_checks.Chains.{Asks, says-yes, says-no, says-nothing}
use Rattle.function_checks.proofs.walk_checks.asking.inferred.Goals as goal

pub returns-in-Ok-Yes-clause-answer : goal.returns-in-Ok-Yes-clause-answer
returns-in-Ok-Yes-clause-answer c =
    let ask : Asks = λ S G. infer_of S nesting G (tree_of c.args.t.now) c.args.kernel.now.left in
    says-yes (asked_of c.args.asked (site_of c.args.site)) ask c.in-Ok-Yes.field-0 c.in-Ok-Yes.ty c.infer.new.self.left
    c.requires.kernel (context-reverse (tele_of c.args.ctx.now)) c.in-Ok-Yes.field-0-is c.in-Ok-Yes.ensures.answer

pub returns-in-Ok-No-clause-answer : goal.returns-in-Ok-No-clause-answer
returns-in-Ok-No-clause-answer c =
    let ask : Asks = λ S G. infer_of S nesting G (tree_of c.args.t.now) c.args.kernel.now.left in
    λ other. says-no (asked_of c.args.asked (site_of c.args.site)) ask c.in-Ok-No.field-0 c.in-Ok-No.denial (refusal_of c.denied.result)
    c.infer.new.self.left c.requires.kernel (context-reverse (tele_of c.args.ctx.now)) c.in-Ok-No.field-0-is c.in-Ok-No.ensures.answer (c.denied.ensures other)

pub returns-in-Err-clause-answer : goal.returns-in-Err-clause-answer
returns-in-Err-clause-answer c =
    let ask : Asks = λ S G. infer_of S nesting G (tree_of c.args.t.now) c.args.kernel.now.left in
    λ other. says-nothing (asked_of c.args.asked (site_of c.args.site)) ask c.in-Err.e c.infer.new.self.left
    c.requires.kernel (context-reverse (tele_of c.args.ctx.now)) (c.in-Err.ensures.answer (λ is. other (ap refused.Stop is)))
