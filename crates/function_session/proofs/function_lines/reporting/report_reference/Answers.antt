use Rattle.std.proofs.Common.{subst as transport}
use Rattle.clause_lines.specs.LineMeanings.{line_of}
use Rattle.clause_reports.specs.Reports.{reported}
use Rattle.core_terms.specs.TreeMeanings.{walk_of}
use Rattle.drafts.specs.draft_entering.Stops.{Reports}
use Rattle.leaf_terms.specs.PlanMeanings.{plan_of}
use Rattle.function_session.specs.function_lines.Phases.{reference_of}
use Rattle.function_session.proofs.function_lines.reporting.report_reference.Goals as goal

pub returns-clause-answer : goal.returns-clause-answer
returns-clause-answer c =
    transport (Reports (λ line. reported c.report.new.sig (line_of line)) c.report.result c.report.new.units.left)
    (c.report_is_made.ensures c.args.sig.now (plan_of c.args.plan.now) (reference_of c.args.k c.args.number (walk_of c.args.walk.now))
    c.args.units.now.left c.requires.clause)
    c.report.ensures.answer
