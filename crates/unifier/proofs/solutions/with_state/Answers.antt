use Rattle.std.proofs.Common.{Ok, Some, length, sym, ap, ◌∙◌}
use Rattle.std.proofs.lemmas.Result.{err_from_is_err_and}
use Rattle.core_terms.specs.Answers.{and_then}
use Rattle.core_terms.specs.Meanings.{tree_of}
use Rattle.problems.specs.Meanings.{equation_of, state_of}
use Rattle.unifier.proofs.SolutionTrials.{level-of_code, state-solved-is}
use Rattle.unifier.proofs.solutions.with_state.Goals as goal

pub returns-in_err-next-clause-answer : goal.returns-in_err-next-clause-answer
returns-in_err-next-clause-answer c =
    let q = err_from_is_err_and c.from_residual.result c.from_residual.ensures.1 in
    let u = tree_of c.args.by in
    rw (q.1, q.2)
    (λ other. ap (λ r. and_then r (λ t. Ok (Some (u, t)))) (c.in_err-next.ensures.answer other)
    ∙ sym (state-solved-is (state_of c.args.s.now) (equation_of c.args.e.now) c.args.x c.level_of-p.result (tree_of c.args.ty.now) u
    (level-of_code c.args.s.now.ctx (length c.as_slice.result.now) c.args.x c.level_of-p.result (ap length c.as_slice.ensures) c.level_of-p.ensures)))

pub returns-clause-answer : goal.returns-clause-answer
returns-clause-answer c =
    let u = tree_of c.args.by in
    ap (λ r. and_then r (λ t. Ok (Some (u, t)))) c.in_ok-next.ensures.answer
    ∙ sym (state-solved-is (state_of c.args.s.now) (equation_of c.args.e.now) c.args.x c.level_of-p.result (tree_of c.args.ty.now) u
    (level-of_code c.args.s.now.ctx (length c.as_slice.result.now) c.args.x c.level_of-p.result (ap length c.as_slice.ensures) c.level_of-p.ensures))
