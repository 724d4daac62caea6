use Rattle.std.proofs.Common.{length, arith}
use Rattle.std.proofs.lemmas.List.{length-map}
use Rattle.core_terms.specs.Meanings.{tree_of, tele_of}
use Rattle.problems.proofs.GivenTerms.{all-over}
use Rattle.problems.proofs.KnownRecords.{over-more}
use Rattle.problems.specs.MemberConditions.{most_params}
use Rattle.problems.proofs.FamilyMembers.{kinds-there, problem-meant-scoped}
use Rattle.problems.proofs.ProblemCodes.{code-many, code-scoped, code-whole-few}
use Rattle.problems.proofs.members.problem_of.Goals as goal

pub returns-then-not-has_few-clause-answer : goal.returns-then-not-has_few-clause-answer
returns-then-not-has_few-clause-answer c = λ other.
    code-many (tele_of c.args.ctx.now) c.args.x c.args.m.now c.args.number c.args.con.now c.has_few.result c.if-not-has_few.true c.has_few.ensures

pub few_problem-requires-clause-parameters : goal.few_problem-requires-clause-parameters
few_problem-requires-clause-parameters c =
    over-more (length c.args.ctx.now) most_params (tele_of c.args.m.now.params) (omega arith) (omega arith)
    (all-over c.args.sig.now (length c.args.ctx.now) (tele_of c.args.m.now.params) c.requires.member.parameters)

pub few_problem-requires-clause-indices : goal.few_problem-requires-clause-indices
few_problem-requires-clause-indices c =
    over-more (length c.args.ctx.now) most_params (tele_of c.args.m.now.indices) (omega arith) (omega arith)
    (all-over c.args.sig.now (length c.args.ctx.now) (tele_of c.args.m.now.indices) c.requires.member.indices)

pub few_problem-requires-clause-constructor : goal.few_problem-requires-clause-constructor
few_problem-requires-clause-constructor c = kinds-there c.args.m.now c.args.number c.args.con.now c.requires.member.kinds c.requires.constructor

pub returns-clause-scoped : goal.returns-clause-scoped
returns-clause-scoped c =
    code-scoped c.args.ctx.now c.args.x c.args.m.now c.args.number c.args.con.now c.few_problem.result c.few_problem.ensures c.args.sig.now
    (problem-meant-scoped c.args.sig.now (tele_of c.args.ctx.now) (length c.args.ctx.now) c.args.x c.args.m.now c.args.number c.args.con.now c.requires.ready
    c.requires.context (length-map c.args.ctx.now tree_of) c.requires.variable c.requires.member c.requires.constructor)

pub returns-clause-few : goal.returns-clause-few
returns-clause-few c =
    code-whole-few c.args.ctx.now c.args.x c.args.m.now c.args.number c.args.con.now c.few_problem.result c.few_problem.ensures c.has_few.result
    c.if-not-has_few.false c.has_few.ensures (omega arith)
