use Rattle.std.proofs.Common.{◌∙◌, Err, IfOk, ap, sym, subst}
use Rattle.std.proofs.lemmas.Result.{err_from_is_err_and}
use Rattle.theory.specs.Terms.{Sort}
use Rattle.store_reduce.specs.Runs.{RunsIn}
use Rattle.kernel_check.specs.Checking.{behind}
use Rattle.kernel_check.specs.Verdicts.{IsLiveVerdict, verdict_in}
use Rattle.kernel_check.proofs.StoredVerdicts.{behind-given, behind-refused, behind-stops}
use Rattle.kernel_check.proofs.verdict.behind_in.Goals as goal

pub returns-in_err-given-clause-answer : goal.returns-in_err-given-clause-answer
returns-in_err-given-clause-answer g c =
    let q = err_from_is_err_and c.from_residual.result c.from_residual.ensures.1 in
    λ tree left meant runs.
    subst (λ r. RunsIn (verdict_in tree) r left (behind c.args.child meant)) (sym (q.1 ∙ ap Err q.2))
    (behind-refused tree c.args.child c.args.given _ left meant c.in_err-given.was runs)

pub returns-clause-answer : goal.returns-clause-answer
returns-clause-answer g c =
    λ tree left meant runs.
    behind-given tree c.args.child c.args.given c.in_ok-given.field-0 c.behind.result left meant c.in_ok-given.was (c.behind.ensures.answer tree) runs

pub returns-clause-live : goal.returns-clause-live
returns-clause-live g c = λ held live. c.behind.ensures.live held (subst (λ r. IfOk r (IsLiveVerdict held)) c.in_ok-given.was live)

pub returns-clause-refused : goal.returns-clause-refused
returns-clause-refused g c = behind-stops (λ i. Sort 0) c.args.given c.behind.result _ (c.behind.ensures.answer (λ i. Sort 0))
