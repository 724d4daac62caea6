use Rattle.std.proofs.Common.{sym, subst as transport}
use Rattle.core_terms.specs.Meanings.{tree_of}
use Rattle.leaf_terms.specs.PlanMeanings.{plan_of}
use Rattle.resolve.specs.PatternMeanings.{fun_of}
use Rattle.drafts.proofs.draft_entering.Entered.{same-longer}
use Rattle.function_session.specs.function_lines.Conditions.{IsOfFunction}
use Rattle.function_session.proofs.function_lines.PhasedFunctions.{plan-of-function}
use Rattle.function_session.proofs.function_lines.Results.{closed-type}
use Rattle.function_session.proofs.function_lines.functions.elaborate.Goals as goal

pub level_of-requires : goal.level_of-requires
level_of-requires c = closed-type c.args.sig.now (tree_of c.args.f.now.ty) c.requires.ready.settled.scoped c.requires.resolved.type.scoped

pub returns-in_err-plan-clause-longer : goal.returns-in_err-plan-clause-longer
returns-in_err-plan-clause-longer c = same-longer c.args.sig.now c.plan_over.new.sig c.in_err-plan.ensures.kept

pub report_plan-requires-clause-function : goal.report_plan-requires-clause-function
report_plan-requires-clause-function c =
    let f = fun_of c.args.f.now in
    transport (λ S. IsOfFunction S (plan_of c.in_ok-plan.plan)) (sym c.in_ok-plan.ensures.kept)
    (plan-of-function c.args.sig.now f c.args.units.now.left _ c.in_ok-level.level _ (plan_of c.in_ok-plan.plan) c.requires c.in_ok-level.ensures.answer
    c.in_ok-plan.ensures.answer)
