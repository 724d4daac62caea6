use Rattle.std.proofs.Common.{ap}
use Rattle.std.proofs.lemmas.Result.{err_from_is_err_and}
use Rattle.core_terms.specs.Meanings.{tele_of}
use Rattle.core_terms.specs.TreeMeanings.{steps_of}
use Rattle.problems.specs.Meanings.{outcome_of}
use Rattle.clause_walks.specs.Meanings.{pairs_of}
use Rattle.clause_walks.specs.PointMeanings.{point_of}
use Rattle.clause_walks.specs.WalkMeanings.{next_meant}
use Rattle.clause_walks.specs.declared.stops.TreeStop.TheVariants.{Stop}
use Rattle.clause_walks.proofs.NextCodes.{solved-ok, solved-err}
use Rattle.clause_walks.proofs.turns.own_turn.Goals as goal

pub returns-in_err-next-in-Solved-clause-answer : goal.returns-in_err-next-in-Solved-clause-answer
returns-in_err-next-in-Solved-clause-answer c =
    let q = err_from_is_err_and c.from_residual.result c.from_residual.ensures.1 in
    rw (q.1, q.2)
    (λ other.
    solved-err c.args.clause (point_of c.args.p.now) (pairs_of c.args.pairs.now) (outcome_of c.args.outcome.now) (steps_of c.in-Solved.steps) (tele_of c.in-Solved.ctx) (tele_of c.as_slice.result.now)
    (tele_of c.in-Solved.subst) (tele_of c.as_slice-in-Solved.result.now) _ (ap outcome_of c.in-Solved.is) (ap tele_of c.as_slice.ensures) (ap tele_of c.as_slice-in-Solved.ensures)
    (c.in_err-next-in-Solved.ensures.answer (λ memory. other (ap Stop memory))))

pub returns-in_ok-next-in-Solved-clause-answer : goal.returns-in_ok-next-in-Solved-clause-answer
returns-in_ok-next-in-Solved-clause-answer c =
    solved-ok c.args.clause (point_of c.args.p.now) (pairs_of c.args.pairs.now) (outcome_of c.args.outcome.now) (steps_of c.in-Solved.steps) (tele_of c.in-Solved.ctx) (tele_of c.as_slice.result.now)
    (tele_of c.in-Solved.subst) (tele_of c.as_slice-in-Solved.result.now) (next_meant c.in_ok-next-in-Solved.next) (ap outcome_of c.in-Solved.is) (ap tele_of c.as_slice.ensures)
    (ap tele_of c.as_slice-in-Solved.ensures) c.in_ok-next-in-Solved.ensures.answer
