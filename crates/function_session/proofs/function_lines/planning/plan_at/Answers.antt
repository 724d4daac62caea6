use Rattle.std.proofs.Common.{◌≡◌, true, length, sym, subst as transport}
use Rattle.core_terms.specs.Answers.{are_low}
use Rattle.core_terms.proofs.Builders.{ok_is}
use Rattle.clause_reports.specs.elaboration.Walking.{Opened}
use Rattle.function_checks.proofs.function_clauses.OwnParts.{own-columns, own-part-for}
use Rattle.function_checks.specs.function_walks.Conditions.{IsPartFor}
use Rattle.resolve.specs.PatternMeanings.{fun_of}
use Rattle.function_session.proofs.plan_laws.ExactPlans.{domains-low}
use Rattle.function_session.proofs.function_lines.planning.plan_at.Goals as goal

pub plan_from-plan-requires-clause-part : goal.plan_from-plan-requires-clause-part
plan_from-plan-requires-clause-part c =
    let f = fun_of c.args.f.now in
    transport (λ (p : Opened). IsPartFor c.args.sig.now p f.clauses) (sym (ok_is c.in_ok-part.ensures))
    (own-part-for c.requires.before c.args.sig.now f c.args.level c.requires.prefix c.requires.ready c.requires.resolved)

pub plan_from-plan-requires-clause-columns : goal.plan_from-plan-requires-clause-columns
plan_from-plan-requires-clause-columns c =
    let f = fun_of c.args.f.now in
    transport (λ (p : Opened). length p.terms ≡ length p.tele) (sym (ok_is c.in_ok-part.ensures))
    (own-columns c.requires.before c.args.sig.now f c.args.level c.requires.resolved)

pub plan_from-plan-requires-clause-low : goal.plan_from-plan-requires-clause-low
plan_from-plan-requires-clause-low c =
    let f = fun_of c.args.f.now in
    transport (λ (p : Opened). are_low p.tele ≡ true) (sym (ok_is c.in_ok-part.ensures)) (domains-low f.arity f.type c.requires.resolved.type.low)
