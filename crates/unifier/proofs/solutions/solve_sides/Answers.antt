use Rattle.std.proofs.Common.{Ok, Some, None, ap, ◌∙◌, subst as transport}
use Rattle.std.proofs.lemmas.Result.{err_from_is_err_and}
use Rattle.core_terms.specs.Answers.{Runs, Spent}
use Rattle.std.specs.Prelude.{Option, option_map}
use Rattle.core_terms.specs.Meanings.{tree_of}
use Rattle.kernel_reduce.specs.Reduction.{answered}
use Rattle.unification.specs.Turns.{Goes, Turn}
use Rattle.problems.specs.Meanings.{equation_of, state_of, turn_of}
use Rattle.unifier.proofs.SolutionTrials.{sides-answered, sides-refused}
use Rattle.unifier.proofs.solutions.solve_sides.Goals as goal

pub returns-in_err-by-clause-answer : goal.returns-in_err-by-clause-answer
returns-in_err-by-clause-answer c =
    let q = err_from_is_err_and c.from_residual.result c.from_residual.ensures.1 in
    rw (q.1, q.2)
    (sides-refused c.args.kernel.now.signature (state_of c.args.s.now) (equation_of c.args.e.now) (tree_of c.args.ty) (tree_of c.args.left) (tree_of c.args.right)
    c.in-Some.x c.args.kernel.now.left c.solve_side.new.kernel.left _ c.in-Some.ensures c.in_err-by.ensures.answer)

pub returns-in-Some-2-clause-answer : goal.returns-in-Some-2-clause-answer
returns-in-Some-2-clause-answer c =
    let answer = rw c.in-Some-2.is at c.in_ok-by.ensures.answer in
    ap (λ step. answered (Ok (Some (Goes step (state_of c.in-Some-2.next.value)))) c.solve_side.new.kernel.left) c.single-step.ensures
    ∙ sides-answered c.args.kernel.now.signature (state_of c.args.s.now) (equation_of c.args.e.now) (tree_of c.args.ty) (tree_of c.args.left) (tree_of c.args.right)
    c.in-Some.x c.args.kernel.now.left c.solve_side.new.kernel.left (Some (tree_of c.in-Some-2.by, state_of c.in-Some-2.next.value)) c.in-Some.ensures answer

pub returns-in-None-clause-answer : goal.returns-in-None-clause-answer
returns-in-None-clause-answer c =
    let answer = rw c.in-None.is at c.in_ok-by.ensures.answer in
    let P : Spent (Option Turn) → Type 0 = λ r. Runs (option_map turn_of) c.solve_left-in-None.result c.solve_left-in-None.new.kernel.left r in
    transport P
    (sides-answered c.args.kernel.now.signature (state_of c.args.s.now) (equation_of c.args.e.now) (tree_of c.args.ty) (tree_of c.args.left) (tree_of c.args.right)
    c.in-Some.x c.args.kernel.now.left c.solve_side.new.kernel.left None c.in-Some.ensures answer)
    (rw c.in_ok-by.ensures.kernel at c.solve_left-in-None.ensures.answer)
