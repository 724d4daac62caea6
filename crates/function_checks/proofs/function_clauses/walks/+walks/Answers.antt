use Rattle.std.proofs.lemmas.Result.{err_from_is_err_and}
use Rattle.core_terms.specs.Meanings.{tree_of}
use Rattle.core_terms.specs.PatternMeanings.{clause_of, clauses_of, pats_of, right_of}
use Rattle.core_terms.specs.TreeMeanings.{walk_of}
use Rattle.core_terms.proofs.Builders.{ok_is}
use Rattle.function_checks.proofs.function_clauses.ClauseChains.{clause-ends, clause-goes-on, clause-parts, with-goes-on}
use Rattle.function_checks.proofs.function_clauses.GivenChains.{inside-walked, joined-walked}
use Rattle.function_checks.specs.function_clauses.ScrutineeMeanings.{scrutinee_of}
use Rattle.function_checks.specs.function_walks.WalkingMeanings.{given_of, opened_of, session_of}
use Rattle.function_checks.specs.walk_checks.CheckMeanings.{site_of}
use Rattle.function_checks.proofs.function_clauses.walks.+walks.Goals as goal

pub inside_walked-returns-clause-walked : goal.inside_walked-returns-clause-walked
inside_walked-returns-clause-walked t c =
    inside-walked c.args.s.sig.now c.args.k c.args.number (walk_of c.args.w) (scrutinee_of c.args.x) (clauses_of c.args.inner.now)
    (given_of c.in_ok-given.given) (given_of c.in_ok-with_given.field-0) c.requires.given c.in_ok-given.ensures.walked (ok_is c.in_ok-with_given.ensures)

pub others_walked-returns-clause-walked : goal.others_walked-returns-clause-walked
others_walked-returns-clause-walked t c =
    joined-walked c.args.s.sig.now (given_of c.args.given) (given_of c.in_ok-others.others) (given_of c.in_ok-joined.field-0) c.requires.helpers
    c.in_ok-others.ensures.walked (ok_is c.in_ok-joined.ensures)

pub walk_clause-returns-in_err-w-clause-answer : goal.walk_clause-returns-in_err-w-clause-answer
walk_clause-returns-in_err-w-clause-answer t c =
    let q = err_from_is_err_and c.from_residual-in_err-w.result c.from_residual-in_err-w.ensures.1 in
    rw (q.1, q.2) (λ other.
    clause-ends (session_of c.args.s) c.args.k (opened_of c.args.part.now) c.args.number c.args.next (clause_of c.args.c.now)
    (pats_of c.args.c.now.pats)
    c.args.c.now.binds (right_of c.args.c.now.right) c.args.kernel.now.left c.clause_walked.new.kernel.left _ _ (clause-parts c.args.c.now)
    (ok_is c.in_ok-function.ensures)
    (c.in_err-w.ensures.answer other))

pub walk_clause-returns-clause-answer : goal.walk_clause-returns-clause-answer
walk_clause-returns-clause-answer t c =
    clause-goes-on given_of (session_of c.args.s) c.args.k (opened_of c.args.part.now) c.args.number c.args.next (clause_of c.args.c.now)
    (pats_of c.args.c.now.pats)
    c.args.c.now.binds (right_of c.args.c.now.right) c.args.kernel.now.left c.clause_walked.new.kernel.left c.walk_right.new.kernel.left _
    (walk_of c.in_ok-w.w) c.walk_right.result (clause-parts c.args.c.now) (ok_is c.in_ok-function.ensures) c.in_ok-w.ensures.answer c.walk_right.ensures.answer

pub with_walked-returns-clause-answer : goal.with_walked-returns-clause-answer
with_walked-returns-clause-answer t c =
    with-goes-on given_of (session_of c.args.s) c.args.k c.args.site.number c.args.next (site_of c.args.site) (walk_of c.args.w)
    (tree_of c.args.written.now) (clauses_of c.args.inner.now) c.args.kernel.now.left c.scrutinised.new.kernel.left
    c.inside_walked.new.kernel.left (scrutinee_of c.in_ok-x.x) c.inside_walked.result c.in_ok-x.ensures.answer c.inside_walked.ensures.answer
