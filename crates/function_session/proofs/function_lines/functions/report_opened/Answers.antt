use Rattle.std.proofs.Common.{List, sym, subst as transport}
use Rattle.drafts.proofs.draft_entering.Longer.{extends-on}
use Rattle.leaf_terms.specs.PlanMeanings.{parts_of, plan_of}
use Rattle.leaf_terms.specs.declared.plan.Part as code
use Rattle.function_session.specs.function_lines.Conditions.{AreFrom}
use Rattle.function_session.proofs.function_lines.PartWalks.{all-from}
use Rattle.function_session.proofs.function_lines.functions.report_opened.Goals as goal

pub report_parts-requires-clause-parts : goal.report_parts-requires-clause-parts
report_parts-requires-clause-parts c =
    let parts = (plan_of c.args.plan.now).parts in
    transport (λ (ps : List code.Part). AreFrom 0 (parts_of ps) parts) (sym c.as_slice.ensures) (all-from parts)

pub returns-clause-longer : goal.returns-clause-longer
returns-clause-longer c =
    extends-on c.args.sig.now c.enter_plan.new.sig c.report_parts.new.sig c.in_ok-enter_plan.ensures.longer c.report_parts.ensures.longer
