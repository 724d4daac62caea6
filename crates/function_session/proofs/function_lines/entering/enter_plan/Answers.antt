use Rattle.std.proofs.Common.{subst as transport}
use Rattle.function_checks.specs.function_refusals.RefusalMeanings.{Elaborates}
use Rattle.drafts.proofs.draft_checks.UnmarkedEntries.{unmarked-tells}
use Rattle.drafts.proofs.entering_laws.OpenSignatures.{well_formed-open}
use Rattle.leaf_terms.specs.PlanMeanings.{plan_of}
use Rattle.function_session.specs.function_lines.Conditions.{HasEntries}
use Rattle.function_session.proofs.function_laws.report_laws.FunctionReports.{low-domains}
use Rattle.function_session.proofs.function_lines.EnteredPlans.{entered-has, translated-is}
use Rattle.function_session.proofs.function_lines.entering.enter_plan.Goals as goal

pub enter_translated-requires-clause-signature : goal.enter_translated-requires-clause-signature
enter_translated-requires-clause-signature c =
    well_formed-open c.args.sig.now c.requires.signature.well_formed c.requires.signature.prelude (unmarked-tells c.args.sig.now c.requires.unmarked)

pub enter_translated-requires-clause-low : goal.enter_translated-requires-clause-low
enter_translated-requires-clause-low c =
    let h = c.requires.function in
    low-domains c.args.sig.now h.0 (plan_of c.args.plan.now) h.1.plan_for

pub enter_translated-requires-clause-drafts : goal.enter_translated-requires-clause-drafts
enter_translated-requires-clause-drafts c =
    let h = c.requires.function in
    c.function_enters_in_turn.ensures c.args.sig.now h.0 (plan_of c.args.plan.now) h.1.plan_for h.1.level c.requires.signature.well_formed
    c.requires.signature.prelude c.requires.unmarked

pub returns-clause-answer : goal.returns-clause-answer
returns-clause-answer c =
    transport (Elaborates (λ u. c.enter_translated.new.sig) c.enter_translated.result c.enter_translated.new.units.left)
    (translated-is c.args.sig.now (plan_of c.args.plan.now) c.args.units.now.left) c.enter_translated.ensures.answer

pub returns-clause-entries : goal.returns-clause-entries
returns-clause-entries c =
    let S = c.args.sig.now in
    let plan = plan_of c.args.plan.now in
    let h = c.requires.function in
    entered-has (HasEntries plan) c.enter_translated.new.sig c.enter_translated.result c.enter_translated.new.units.left _
    (transport (Elaborates (λ u. c.enter_translated.new.sig) c.enter_translated.result c.enter_translated.new.units.left)
    (translated-is S plan c.args.units.now.left) c.enter_translated.ensures.answer)
    (c.plan_has_entries.ensures S h.0 plan c.args.units.now.left h.1.plan_for h.1.level c.requires.signature.well_formed c.requires.signature.prelude
    c.requires.unmarked)
