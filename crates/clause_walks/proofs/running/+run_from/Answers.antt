use Rattle.std.proofs.Common.{length, sym, ap, ◌∙◌, subst as transport}
use Rattle.std.proofs.lemmas.Result.{err_from_is_err_and}
use Rattle.core_terms.specs.Meanings.{tele_of}
use Rattle.core_terms.proofs.Builders.{ok_is}
use Rattle.clause_walks.specs.LookMeanings.{ran_of, runs_of, sorted_as, stuck_of}
use Rattle.problems.specs.MemberMeanings.{member_meant}
use Rattle.clause_walks.specs.Stops.{Yields}
use Rattle.clause_walks.specs.declared.stops.TreeStop.TheVariants.{Stop}
use Rattle.clause_walks.proofs.RunCodes.{code-goes, code-refused, code-stuck}
use Rattle.problems.proofs.LowTerms.{first-item}
use Rattle.clause_walks.proofs.running.+run_from.Goals as goal

pub returns-in_err-run_one-clause-answer : goal.returns-in_err-run_one-clause-answer
returns-in_err-run_one-clause-answer t c =
    let q = err_from_is_err_and c.from_residual.result c.from_residual.ensures.1 in
    rw (q.1, q.2)
    (λ other.
    code-refused c.args.sig.now (tele_of c.args.ctx.now) c.args.x (member_meant c.args.m.now) c.args.number (length c.args.m.now.family.now.params) c.args.cons.now _
    c.con-item.result c.args.made c.args.kernel.now.left c.run_one.new.kernel.left
    (first-item c.args.cons.now c.con-item.result c.in-len1-up.len_at_least c.con-item.is) _
    (c.in_err-run_one.ensures.answer (λ same. other (ap Stop same))))

pub returns-in-Err-clause-answer : goal.returns-in-Err-clause-answer
returns-in-Err-clause-answer t c =
    code-stuck c.args.sig.now (tele_of c.args.ctx.now) c.args.x (member_meant c.args.m.now) c.args.number (length c.args.m.now.family.now.params) c.args.cons.now _
    c.con-item.result c.args.made c.args.kernel.now.left c.run_one.new.kernel.left
    (first-item c.args.cons.now c.con-item.result c.in-len1-up.len_at_least c.con-item.is)
    (stuck_of c.in-Err.stuck) (ran_of c.in_ok-run_one.field-0) (ap sorted_as (sym c.in-Err.is) ∙ c.unless_stuck.ensures) c.in_ok-run_one.ensures.answer

pub returns-in_ok-next-in-Ok-clause-answer : goal.returns-in_ok-next-in-Ok-clause-answer
returns-in_ok-next-in-Ok-clause-answer t c =
    transport (Yields runs_of c.run_from.result c.run_from.new.kernel.left)
    (code-goes c.args.sig.now (tele_of c.args.ctx.now) c.args.x (member_meant c.args.m.now) c.args.number (length c.args.m.now.family.now.params) c.args.cons.now _
    c.con-item.result c.args.made c.args.kernel.now.left c.run_one.new.kernel.left
    (first-item c.args.cons.now c.con-item.result c.in-len1-up.len_at_least c.con-item.is)
    c.in_ok-next-in-Ok.next _ c.in-Ok.ran (ran_of c.in_ok-run_one.field-0) (ok_is c.in_ok-next-in-Ok.ensures) c.in_ok-push-in-Ok.ensures.ok
    (ap sorted_as (sym c.in-Ok.is) ∙ c.unless_stuck.ensures) c.in_ok-run_one.ensures.answer)
    c.run_from.ensures.answer
