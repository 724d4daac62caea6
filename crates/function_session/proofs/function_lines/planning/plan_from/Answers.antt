use Rattle.std.proofs.Common.{sym, ap}
use Rattle.core_terms.specs.PatternMeanings.{clauses_of}
use Rattle.function_checks.proofs.function_clauses.OwnParts.{part-walked}
use Rattle.function_checks.specs.function_walks.WalkingMeanings.{given_of, opened_of, session_of}
use Rattle.clause_reports.specs.elaboration.Refusals.{Elaborating}
use Rattle.clause_reports.specs.elaboration.Walking.{Given, walk_clauses}
use Rattle.function_session.proofs.plan_laws.Answering.{if-ok}
use Rattle.function_session.proofs.plan_laws.LowWalks.{IsLowGiven, clauses-low}
use Rattle.function_session.proofs.function_lines.planning.plan_from.Goals as goal

pub plan_of_walks-requires-clause-own : goal.plan_of_walks-requires-clause-own
plan_of_walks-requires-clause-own c = record { walked = part-walked c.args.s.sig.now _ c.requires.part; columns = c.requires.columns }

pub plan_of_walks-requires-clause-uses : goal.plan_of_walks-requires-clause-uses
plan_of_walks-requires-clause-uses c =
    let s = session_of c.args.s in
    let part = opened_of c.args.part in
    let clauses = clauses_of c.as_slice.result.now in
    let left = c.args.kernel.now.left in
    if-ok IsLowGiven (walk_clauses s 0 part 0 1 clauses left).0 (given_of c.in_ok-given.given)
    (sym (ap (λ (m : Elaborating Given). m.0) c.in_ok-given.ensures.answer))
    (clauses-low s 0 part 0 1 clauses left)
