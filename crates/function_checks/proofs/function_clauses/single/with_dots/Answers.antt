use Rattle.std.proofs.Common.{map, ap}
use Rattle.std.proofs.lemmas.Result.{err_from_is_err_and}
use Rattle.core_terms.specs.TreeMeanings.{walk_of}
use Rattle.function_checks.proofs.function_clauses.GivenChains.{dots-end}
use Rattle.function_checks.proofs.function_clauses.WalkScopes.{dot_of, dots-scoped}
use Rattle.function_checks.specs.walk_checks.CheckMeanings.{site_of}
use Rattle.function_checks.proofs.function_clauses.single.with_dots.Goals as goal

pub check_dots-requires-clause-dots : goal.check_dots-requires-clause-dots
check_dots-requires-clause-dots c = dots-scoped c.args.sig.now c.args.w c.as_slice.result.now c.as_slice.ensures c.requires.given

pub returns-in_err-check_dots-clause-answer : goal.returns-in_err-check_dots-clause-answer
returns-in_err-check_dots-clause-answer c =
    let q = err_from_is_err_and c.from_residual.result c.from_residual.ensures.1 in
    rw (q.1, q.2) (λ other.
    dots-end c.args.sig.now (site_of c.args.site) (walk_of c.args.w) (map dot_of c.as_slice.result.now) c.args.kernel.now.left
    c.check_dots.new.kernel.left _ (ap (map dot_of) c.as_slice.ensures) (c.in_err-check_dots.ensures.answer other))
