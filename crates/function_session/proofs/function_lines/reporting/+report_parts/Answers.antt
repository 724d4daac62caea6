use Rattle.std.proofs.Common.{◌-◌, List, length, drop, map, sym, subst as transport, arith}
use Rattle.std.proofs.lemmas.List.{length-take, length-drop}
use Rattle.std.proofs.lemmas.Option.{slice_get_within}
use Rattle.core_terms.specs.declared.case_tree.Walk as code
use Rattle.core_terms.specs.TreeMeanings.{walk_of}
use Rattle.drafts.proofs.draft_entering.Longer.{extends-on}
use Rattle.leaf_terms.specs.PlanMeanings.{part_of, plan_of}
use Rattle.clause_reports.specs.Equations.{part_at}
use Rattle.function_session.specs.function_lines.Conditions.{AreFrom}
use Rattle.function_session.proofs.function_lines.PartWalks.{walks-from}
use Rattle.function_session.proofs.function_lines.Slices.{item-from, others-from}
use Rattle.function_session.proofs.function_lines.reporting.+report_parts.Goals as goal

pub report_walks-requires-clause-part : goal.report_walks-requires-clause-part
report_walks-requires-clause-part t c =
    let parts = (plan_of c.args.plan.now).parts in
    slice_get_within parts c.args.k (part_of c.part-item.result)
    (item-from part_of c.args.k c.part-item.result c.args.parts.now parts c.in-len1-up.len_at_least c.part-item.is c.requires.parts)

pub report_walks-requires-clause-walks : goal.report_walks-requires-clause-walks
report_walks-requires-clause-walks t c =
    let plan = plan_of c.args.plan.now in
    transport (λ (ws : List code.Walk). AreFrom 0 (map walk_of ws) (part_at plan c.args.k).walks) (sym c.as_slice-walks.ensures)
    (walks-from plan c.args.k (part_of c.part-item.result)
    (item-from part_of c.args.k c.part-item.result c.args.parts.now plan.parts c.in-len1-up.len_at_least c.part-item.is c.requires.parts))

pub report_parts-requires : goal.report_parts-requires
report_parts-requires t c =
    let parts = c.args.parts.now in (
      omega (arith, length-take (length parts - 1) (drop 1 parts), length-drop 1 parts, c.in-len1-up.len_at_least),
      (
        c.in_ok-made-in-len1-up.ensures.ready,
        (
          c.in_ok-made-in-len1-up.ensures.entries,
          others-from part_of c.args.k c.part-item.result parts (plan_of c.args.plan.now).parts c.in-len1-up.len_at_least c.part-item.is
              c.requires.parts c.in_ok-next-in-len1-up.next c.in_ok-next-in-len1-up.ensures.ok,
        ),
      ),
    )

pub returns-in_ok-next-in-len1-up-clause-longer : goal.returns-in_ok-next-in-len1-up-clause-longer
returns-in_ok-next-in-len1-up-clause-longer t c =
    extends-on c.args.sig.now c.report_walks.new.sig c.report_parts.new.sig c.in_ok-made-in-len1-up.ensures.longer c.report_parts.ensures.longer
