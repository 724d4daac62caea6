use Rattle.std.proofs.Common.{◌≡◌, List, [], ap}
use Rattle.theory.specs.Telescopes.{context_behind}
use Rattle.core_terms.specs.Meanings.{tree_of, tele_of}
use Rattle.core_terms.specs.declared.term.Term as code
use Rattle.function_checks.specs.function_refusals.RefusalMeanings.{refusal_of}
use Rattle.kernel_check.specs.Checking.{infer_sort_of}
use Rattle.kernel_reduce.specs.Reduction.{nesting}
use Rattle.function_checks.specs.walk_checks.CheckMeanings.{asked_of, site_of}
use Rattle.function_checks.proofs.walk_checks.Chains.{Asks, says-yes, says-no}
use Rattle.function_checks.proofs.walk_checks.asking.sort_of.Goals as goal

no-types : {types : List code.Term} → types ≡ [] → context_behind [] (tele_of types) ≡ []
no-types e = ap (λ types. context_behind [] (tele_of types)) e

pub returns-in-Ok-Yes-clause-answer : goal.returns-in-Ok-Yes-clause-answer
returns-in-Ok-Yes-clause-answer c =
    let ask : Asks = λ S G. infer_sort_of S nesting G (tree_of c.args.ty.now) c.args.kernel.now.left in
    says-yes (asked_of c.args.asked (site_of c.args.site)) ask c.in-Ok-Yes.field-0 c.in-Ok-Yes.sort c.infer_sort.new.self.left
    c.requires.kernel (no-types c.new-ctx.ensures) c.in-Ok-Yes.field-0-is c.in-Ok-Yes.ensures.answer

pub returns-in-Ok-No-clause-answer : goal.returns-in-Ok-No-clause-answer
returns-in-Ok-No-clause-answer c =
    let ask : Asks = λ S G. infer_sort_of S nesting G (tree_of c.args.ty.now) c.args.kernel.now.left in
    λ other. says-no (asked_of c.args.asked (site_of c.args.site)) ask c.in-Ok-No.field-0 c.in-Ok-No.denial (refusal_of c.denied.result)
    c.infer_sort.new.self.left c.requires.kernel (no-types c.new-ctx.ensures) c.in-Ok-No.field-0-is c.in-Ok-No.ensures.answer (c.denied.ensures other)
