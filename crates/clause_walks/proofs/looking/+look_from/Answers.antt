use Rattle.std.proofs.Common.{option_map, subst as transport}
use Rattle.std.proofs.lemmas.Result.{err_from_is_err_and}
use Rattle.core_terms.specs.Meanings.{tele_of}
use Rattle.clause_walks.specs.LookMeanings.{reached_of, stuck_stop, unmatched_stop}
use Rattle.clause_walks.specs.Stops.{Yields}
use Rattle.clause_walks.proofs.LookCodes.{code-forced, code-found, code-refused, code-stuck}
use Rattle.problems.proofs.LowTerms.{first-item}
use Rattle.clause_walks.proofs.looking.+look_from.Goals as goal

pub returns-in_err-found-clause-answer : goal.returns-in_err-found-clause-answer
returns-in_err-found-clause-answer t c =
    let q = err_from_is_err_and c.from_residual.result c.from_residual.ensures.1 in
    rw (q.1, q.2)
    (λ other.
    code-refused c.args.sig.now c.args.own c.args.clause (tele_of c.args.ctx.now) c.args.pairs.now _ c.pair-item.result (option_map (stuck_stop c.args.clause) c.args.stuck.now)
    (option_map (unmatched_stop c.args.clause (tele_of c.args.ctx.now)) c.args.forced.now) c.args.kernel.now.left c.arrive.new.kernel.left
    (first-item c.args.pairs.now c.pair-item.result c.in-len1-up.len_at_least c.pair-item.is) _ (c.in_err-found.ensures.answer other))

pub returns-in-Found-clause-answer : goal.returns-in-Found-clause-answer
returns-in-Found-clause-answer t c =
    code-found c.args.sig.now c.args.own c.args.clause (tele_of c.args.ctx.now) c.args.pairs.now _ c.pair-item.result (option_map (stuck_stop c.args.clause) c.args.stuck.now)
    (option_map (unmatched_stop c.args.clause (tele_of c.args.ctx.now)) c.args.forced.now) c.args.kernel.now.left c.arrive.new.kernel.left
    (first-item c.args.pairs.now c.pair-item.result c.in-len1-up.len_at_least c.pair-item.is) (reached_of c.in-Found.found)
    (rw c.in-Found.is at c.in_ok-found.ensures.answer)

pub returns-in-Stuck-clause-answer : goal.returns-in-Stuck-clause-answer
returns-in-Stuck-clause-answer t c =
    transport (Yields reached_of c.look_from.result c.look_from.new.kernel.left)
    (code-stuck c.args.sig.now c.args.own c.args.clause (tele_of c.args.ctx.now) c.args.pairs.now _ c.pair-item.result (option_map (stuck_stop c.args.clause) c.args.stuck.now)
    (option_map (unmatched_stop c.args.clause (tele_of c.args.ctx.now)) c.args.forced.now) c.args.kernel.now.left c.arrive.new.kernel.left
    (first-item c.args.pairs.now c.pair-item.result c.in-len1-up.len_at_least c.pair-item.is) (stuck_stop c.args.clause c.in-Stuck.run') _ (c.keep_stuck.ensures c.args.clause)
    (rw c.in-Stuck.is at c.in_ok-found.ensures.answer))
    c.look_from.ensures.answer

pub returns-in-Forced-clause-answer : goal.returns-in-Forced-clause-answer
returns-in-Forced-clause-answer t c =
    transport (Yields reached_of c.look_from-in-Forced.result c.look_from-in-Forced.new.kernel.left)
    (code-forced c.args.sig.now c.args.own c.args.clause (tele_of c.args.ctx.now) c.args.pairs.now _ c.pair-item.result (option_map (stuck_stop c.args.clause) c.args.stuck.now)
    (option_map (unmatched_stop c.args.clause (tele_of c.args.ctx.now)) c.args.forced.now) c.args.kernel.now.left c.arrive.new.kernel.left
    (first-item c.args.pairs.now c.pair-item.result c.in-len1-up.len_at_least c.pair-item.is) (unmatched_stop c.args.clause (tele_of c.args.ctx.now) c.in-Forced.unmatched) _ (c.keep_unmatched.ensures c.args.clause (tele_of c.args.ctx.now))
    (rw c.in-Forced.is at c.in_ok-found.ensures.answer))
    c.look_from-in-Forced.ensures.answer
