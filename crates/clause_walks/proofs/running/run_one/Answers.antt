use Rattle.std.proofs.Common.{length}
use Rattle.std.proofs.lemmas.List.{length-map}
use Rattle.std.proofs.lemmas.Result.{err_from_is_err_and}
use Rattle.core_terms.specs.Meanings.{tree_of, tele_of}
use Rattle.problems.specs.Meanings.{outcome_of, problem_of as problem_meant}
use Rattle.clause_walks.specs.LookMeanings.{ran_of}
use Rattle.problems.specs.MemberMeanings.{member_meant}
use Rattle.problems.proofs.FamilyMembers.{problem-meant-scoped}
use Rattle.clause_walks.proofs.RunCodes.{code-deep, code-ends}
use Rattle.clause_walks.proofs.running.run_one.Goals as goal

pub returns-in_err-problem-clause-answer : goal.returns-in_err-problem-clause-answer
returns-in_err-problem-clause-answer c =
    let q = err_from_is_err_and c.from_residual.result c.from_residual.ensures.1 in
    rw (q.1, q.2)
    (λ other.
    code-deep c.args.sig.now (tele_of c.args.ctx.now) c.args.x (member_meant c.args.m.now) c.args.number (length c.args.m.now.family.now.params) c.args.con.now
    c.args.kernel.now.left _
    (problem-meant-scoped c.args.sig.now (tele_of c.args.ctx.now) (length c.args.ctx.now) c.args.x c.args.m.now c.args.number c.args.con.now c.requires.ready
    c.requires.context (length-map c.args.ctx.now tree_of) c.requires.variable c.requires.member c.requires.constructor)
    (c.in_err-problem.ensures.answer other))

pub returns-clause-answer : goal.returns-clause-answer
returns-clause-answer c =
    code-ends c.args.sig.now (tele_of c.args.ctx.now) c.args.x (member_meant c.args.m.now) c.args.number (length c.args.m.now.family.now.params) c.args.con.now
    c.args.kernel.now.left (problem_meant c.in_ok-problem.problem) c.unify_with.new.kernel.left (outcome_of c.in_ok-outcome.outcome) (ran_of c.ended.result)
    c.in_ok-problem.ensures.answer c.in_ok-outcome.ensures.answer c.ended.ensures
