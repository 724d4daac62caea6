use Rattle.std.proofs.Common.{reverse, subst as transport}
use Rattle.function_checks.specs.function_walks.WalkingMeanings.{session_of}
use Rattle.core_terms.specs.Meanings.{tree_of, tele_of}
use Rattle.core_terms.specs.TreeMeanings.{walk_of}
use Rattle.clause_reports.specs.elaboration.Refusals.{OfWith, granted}
use Rattle.function_checks.specs.function_refusals.RefusalMeanings.{Elaborates}
use Rattle.function_checks.proofs.walk_checks.Chains.{goes-on}
use Rattle.function_checks.proofs.walk_checks.HelperCalls.{open-is}
use Rattle.function_checks.specs.walk_checks.CodeOpening.{type_asked}
use Rattle.function_checks.specs.walk_checks.CheckMeanings.{opening_of, site_of}
use Rattle.kernel_check.specs.Checking.{infer_of}
use Rattle.kernel_reduce.specs.Reduction.{nesting}
use Rattle.function_checks.proofs.walk_checks.opening.open_over.Goals as goal

pub returns-clause-answer : goal.returns-clause-answer
returns-clause-answer c =
    let S = c.args.s.sig.now in
    let w = c.args.w.now in
    let t = tree_of c.args.t.now in
    transport (Elaborates opening_of c.with_type.result c.with_type.new.kernel.left)
    (open-is (session_of c.args.s) (site_of c.args.site) (walk_of w) t c.args.kernel.now.left)
    (goes-on opening_of
    (granted S (OfWith (site_of c.args.site)) (infer_of S nesting (reverse (tele_of w.ctx)) t c.args.kernel.now.left))
    (tree_of c.in_ok-ty.ty) (λ type rest. type_asked (session_of c.args.s) (site_of c.args.site) (walk_of w) t type rest)
    c.inferred.new.kernel.left c.with_type.new.kernel.left c.with_type.result c.in_ok-ty.ensures.answer c.with_type.ensures.answer)
