use Rattle.std.proofs.Common.{sym, ◌∙◌, ap, subst as transport}
use Rattle.core_terms.specs.Meanings.{tree_of}
use Rattle.core_terms.proofs.Builders.{ok_is}
use Rattle.theory.specs.WellFormed.{first_entries}
use Rattle.resolve.specs.PatternMeanings.{fun_of}
use Rattle.function_session.specs.function_lines.Conditions.{IsFunctionOver}
use Rattle.function_checks.specs.function_refusals.RefusalMeanings.{Elaborates}
use Rattle.leaf_terms.specs.PlanMeanings.{plan_of}
use Rattle.function_session.proofs.function_lines.Provisional.{provisional-over, taken-back, walked-over}
use Rattle.function_session.proofs.function_lines.planning.plan_over.Goals as goal

pub plan_at-made-requires : goal.plan_at-made-requires
plan_at-made-requires c =
    transport (λ S. IsFunctionOver S (fun_of c.args.f.now)) (sym c.in_ok-own.ensures.ok)
    (provisional-over c.args.sig.now (fun_of c.args.f.now) c.requires.ready c.requires.resolved)

pub returns-clause-kept : goal.returns-clause-kept
returns-clause-kept c =
    c.truncate.ensures ∙ ap (λ S. first_entries S c.in_ok-own.own) c.in_ok-own.ensures.ok
    ∙ taken-back c.args.sig.now c.args.f.now.name (tree_of c.args.f.now.ty) c.in_ok-own.own (ok_is c.in_ok-own.ensures.answer)

pub returns-clause-answer : goal.returns-clause-answer
returns-clause-answer c =
    transport (Elaborates plan_of c.plan_at-made.result c.plan_at-made.new.units.left)
    (walked-over c.args.sig.now c.push_function.new.sig (fun_of c.args.f.now) c.in_ok-own.own c.args.level c.args.units.now.left c.in_ok-own.ensures.ok
    (ok_is c.in_ok-own.ensures.answer))
    c.plan_at-made.ensures.answer
