use Rattle.std.proofs.Common.{ap₂, ◌∙◌, get_or}
use Rattle.core_terms.specs.TreeMeanings.{walk_of}
use Rattle.leaf_terms.specs.PlanMeanings.{part_of, parts_of, plan_of}
use Rattle.clause_lines.proofs.EnteredLines.{report-in-part}
use Rattle.clause_lines.proofs.reporting.report.Goals as goal

pub returns-clause-answer : goal.returns-clause-answer
returns-clause-answer c =
    report-in-part c.args.sig.now c.clause_report.new.sig (plan_of c.args.plan.now) (part_of c.part_or.result.now) c.args.part c.args.clause
    (walk_of c.args.walk.now) c.args.units.now.left c.clause_report.new.units.left c.clause_report.result
    (c.part_or.ensures ∙ ap₂ (λ ps n. get_or (parts_of ps) c.args.part n) c.as_slice.ensures c.no_part-none.ensures)
    c.clause_report.ensures.answer
