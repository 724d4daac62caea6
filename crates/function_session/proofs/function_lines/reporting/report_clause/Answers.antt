use Rattle.core_terms.specs.TreeMeanings.{walk_of}
use Rattle.leaf_terms.specs.PlanMeanings.{plan_of}
use Rattle.function_session.specs.function_lines.Phases.{reference_of}
use Rattle.function_session.proofs.function_laws.report_laws.FunctionReports.{reportable}
use Rattle.function_session.proofs.function_lines.reporting.report_clause.Goals as goal

pub report_reference-requires-clause-clause : goal.report_reference-requires-clause-clause
report_reference-requires-clause-clause c =
    reportable c.args.sig.now (plan_of c.args.plan.now) (reference_of c.args.k c.args.number (walk_of c.args.walk.now)) c.requires.entries c.requires.part
    c.requires.walk
