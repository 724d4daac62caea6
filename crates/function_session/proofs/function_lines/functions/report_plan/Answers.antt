use Rattle.std.proofs.Common.{sym, ◌∙◌, subst as transport}
use Rattle.function_checks.specs.function_refusals.RefusalMeanings.{Elaborates}
use Rattle.leaf_terms.specs.PlanMeanings.{plan_of}
use Rattle.function_session.specs.function_lines.LineMeanings.{lines_of}
use Rattle.function_session.proofs.function_lines.ReportedParts.{plan-is}
use Rattle.function_session.proofs.function_lines.functions.report_plan.Goals as goal

pub returns-clause-answer : goal.returns-clause-answer
returns-clause-answer c =
    transport (Elaborates (lines_of c.report_opened.new.sig) c.report_opened.result c.report_opened.new.units.left)
    (plan-is (plan_of c.args.plan.now) c.args.sig.now c.args.units.now.left (sym c.is_open.ensures.is ∙ c.if-not-is_open.false))
    c.report_opened.ensures.answer
