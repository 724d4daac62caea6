use Rattle.std.proofs.Common.{◌-◌, length, drop, arith}
use Rattle.std.proofs.lemmas.List.{length-take, length-drop}
use Rattle.clause_lines.specs.LineMeanings.{line_of}
use Rattle.clause_reports.specs.Equations.{part_at}
use Rattle.clause_reports.specs.Reports.{reported}
use Rattle.core_terms.specs.TreeMeanings.{walk_of}
use Rattle.drafts.proofs.draft_entering.Longer.{extends-on}
use Rattle.leaf_terms.specs.PlanMeanings.{plan_of}
use Rattle.function_session.proofs.function_laws.report_laws.FunctionReports.{reported-on}
use Rattle.function_session.proofs.function_lines.Slices.{item-from, others-from}
use Rattle.function_session.proofs.function_lines.reporting.+report_walks.Goals as goal

pub report_clause-requires-clause-walk : goal.report_clause-requires-clause-walk
report_clause-requires-clause-walk t c =
    item-from walk_of c.args.number c.walk-item.result c.args.walks.now (part_at (plan_of c.args.plan.now) c.args.k).walks c.in-len1-up.len_at_least
    c.walk-item.is c.requires.walks

pub report_walks-requires : goal.report_walks-requires
report_walks-requires t c =
    let plan = plan_of c.args.plan.now in
    let walks = c.args.walks.now in (
      omega (arith, length-take (length walks - 1) (drop 1 walks), length-drop 1 walks, c.in-len1-up.len_at_least),
      (
        c.in_ok-line-in-len1-up.ensures.ready,
        (
          reported-on c.args.sig.now plan c.args.k c.args.number (walk_of c.walk-item.result) c.args.units.now.left
              (reported c.report_clause.new.sig (line_of c.in_ok-line-in-len1-up.line)) c.report_clause.new.units.left c.requires.entries
              c.in_ok-line-in-len1-up.ensures.answer,
          (
            c.requires.part,
            others-from walk_of c.args.number c.walk-item.result walks (part_at plan c.args.k).walks c.in-len1-up.len_at_least c.walk-item.is
                c.requires.walks c.in_ok-next-in-len1-up.next c.in_ok-next-in-len1-up.ensures.ok,
          ),
        ),
      ),
    )

pub returns-in_ok-next-in-len1-up-clause-longer : goal.returns-in_ok-next-in-len1-up-clause-longer
returns-in_ok-next-in-len1-up-clause-longer t c =
    extends-on c.args.sig.now c.report_clause.new.sig c.report_walks.new.sig c.in_ok-line-in-len1-up.ensures.longer c.report_walks.ensures.longer
