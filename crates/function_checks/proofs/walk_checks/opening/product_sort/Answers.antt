use Rattle.std.proofs.Common.{[], subst as transport}
use Rattle.theory.specs.Terms.{Term}
use Rattle.core_terms.specs.Meanings.{tree_of}
use Rattle.core_terms.proofs.Builders.{ok_is}
use Rattle.clause_reports.specs.elaboration.Refusals.{OfGoal, granted}
use Rattle.function_checks.specs.function_refusals.RefusalMeanings.{Elaborates}
use Rattle.function_checks.specs.walk_checks.CheckMeanings.{site_of}
use Rattle.kernel_check.specs.Checking.{infer_sort_of}
use Rattle.kernel_reduce.specs.Reduction.{nesting}
use Rattle.function_checks.proofs.walk_checks.opening.product_sort.Goals as goal

pub returns-clause-answer : goal.returns-clause-answer
returns-clause-answer c =
    let S = c.args.sig.now in
    let P : Term → Type 0 = λ t.
    Elaborates tree_of c.sort_of.result c.sort_of.new.kernel.left
    (granted S (OfGoal (site_of c.args.site)) (infer_sort_of S nesting [] t c.args.kernel.now.left)) in
    transport P (ok_is c.in_ok-ty.ensures) c.sort_of.ensures.answer
