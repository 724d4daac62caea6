use Rattle.std.proofs.Common.{reverse}
use Rattle.core_terms.specs.Meanings.{tree_of, tele_of}
use Rattle.clause_reports.specs.elaboration.Refusals.{OfDot, granted}
use Rattle.function_checks.proofs.walk_checks.Chains.{goes-on}
use Rattle.function_checks.specs.walk_checks.CodeDots.{dot_written}
use Rattle.function_checks.specs.walk_checks.CheckMeanings.{site_of}
use Rattle.kernel_check.specs.Checking.{infer_of}
use Rattle.kernel_reduce.specs.Reduction.{nesting}
use Rattle.function_checks.proofs.walk_checks.dots.check_dot.Goals as goal

pub returns-clause-answer : goal.returns-clause-answer
returns-clause-answer c =
    let S = c.args.sig.now in
    let owner = site_of c.args.site in
    let G = tele_of c.args.ctx.now in
    let written = tree_of c.args.written.now in
    let forced = tree_of c.args.forced.now in
    goes-on (λ x. written) (granted S (OfDot owner) (infer_of S nesting (reverse G) forced c.args.kernel.now.left)) (tree_of c.in_ok-ty.ty)
    (λ type rest. dot_written S owner G (written, forced) type rest) c.inferred.new.kernel.left c.check_written.new.kernel.left c.check_written.result
    c.in_ok-ty.ensures.answer c.check_written.ensures.answer
