use Rattle.std.proofs.Common.{subst}
use Rattle.std.proofs.lemmas.Result.{err_from_is_err_and}
use Rattle.core_terms.specs.Answers.{Runs}
use Rattle.unifier.proofs.GroupCodes.{compare-refused, compare-false, compare-true}
use Rattle.unifier.proofs.groups.+all_convertible.Goals as goal

pub returns-in_err-convertible-clause-answer : goal.returns-in_err-convertible-clause-answer
returns-in_err-convertible-clause-answer t c =
    let q = err_from_is_err_and c.from_residual.result c.from_residual.ensures.1 in
    rw (q.1, q.2)
    (λ other.
    compare-refused c.args.kernel.now.signature c.args.equations.now c.e-item.result c.args.others.now c.other-item.result c.args.kernel.now.left c.in-len1-up.len_at_least c.e-item.is c.in-len1-up-others.len_at_least c.other-item.is _ _
    (c.in_err-convertible.ensures.answer other))

pub returns-then-not-branch-clause-answer : goal.returns-then-not-branch-clause-answer
returns-then-not-branch-clause-answer t c =
    compare-false c.args.kernel.now.signature c.args.equations.now c.e-item.result c.args.others.now c.other-item.result c.args.kernel.now.left c.in-len1-up.len_at_least c.e-item.is c.in-len1-up-others.len_at_least c.other-item.is _
    (rw c.if-not-branch.true at c.in_ok-convertible.ensures.answer)

pub returns-clause-answer : goal.returns-clause-answer
returns-clause-answer t c =
    subst (Runs (λ holds. holds) c.all_convertible.result c.all_convertible.new.kernel.left)
    (compare-true c.args.kernel.now.signature c.args.equations.now c.e-item.result c.args.others.now c.other-item.result c.args.kernel.now.left c.in-len1-up.len_at_least c.e-item.is c.in-len1-up-others.len_at_least c.other-item.is _
    (rw c.if-not-branch.false at c.in_ok-convertible.ensures.answer))
    (rw c.in_ok-convertible.ensures.same at c.all_convertible.ensures.answer)
