use Rattle.std.proofs.Common.{Ok, Some, None, ap, ◌∙◌}
use Rattle.std.proofs.lemmas.Result.{err_from_is_err_and}
use Rattle.core_terms.specs.Meanings.{tree_of}
use Rattle.kernel_reduce.specs.Reduction.{answered}
use Rattle.unification.specs.Solutions.{left_step, variable_in}
use Rattle.unification.specs.Turns.{Goes}
use Rattle.problems.specs.Meanings.{equation_of, state_of}
use Rattle.unifier.proofs.SolutionTrials.{side-answered, side-refused}
use Rattle.unifier.proofs.solutions.solve_left.Goals as goal

pub returns-in_err-by-clause-answer : goal.returns-in_err-by-clause-answer
returns-in_err-by-clause-answer c =
    let q = err_from_is_err_and c.from_residual.result c.from_residual.ensures.1 in
    let A = tree_of c.args.ty in
    rw (q.1, q.2)
    (side-refused c.args.kernel.now.signature (state_of c.args.s.now) (equation_of c.args.e.now) A (tree_of c.args.right) (left_step A (tree_of c.args.left))
    (variable_in (tree_of c.args.left)) c.in-Some.x c.args.kernel.now.left c.solve_side.new.kernel.left _ c.in-Some.ensures c.in_err-by.ensures.answer)

pub returns-in-Some-2-clause-answer : goal.returns-in-Some-2-clause-answer
returns-in-Some-2-clause-answer c =
    let A = tree_of c.args.ty in
    let answer = rw c.in-Some-2.is at c.in_ok-by.ensures.answer in
    ap (λ step. answered (Ok (Some (Goes step (state_of c.in-Some-2.next.value)))) c.solve_side.new.kernel.left) c.single-step.ensures
    ∙ side-answered c.args.kernel.now.signature (state_of c.args.s.now) (equation_of c.args.e.now) A (tree_of c.args.right) (left_step A (tree_of c.args.left))
    (variable_in (tree_of c.args.left)) c.in-Some.x c.args.kernel.now.left c.solve_side.new.kernel.left
    (Some (tree_of c.in-Some-2.by, state_of c.in-Some-2.next.value)) c.in-Some.ensures answer

pub returns-in-None-clause-answer : goal.returns-in-None-clause-answer
returns-in-None-clause-answer c =
    let A = tree_of c.args.ty in
    let answer = rw c.in-None.is at c.in_ok-by.ensures.answer in
    side-answered c.args.kernel.now.signature (state_of c.args.s.now) (equation_of c.args.e.now) A (tree_of c.args.right) (left_step A (tree_of c.args.left))
    (variable_in (tree_of c.args.left)) c.in-Some.x c.args.kernel.now.left c.solve_side.new.kernel.left None c.in-Some.ensures answer
