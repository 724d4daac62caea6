use Rattle.std.proofs.Common.{map, subst as transport}
use Rattle.core_sig.specs.Drafts.{draft_of}
use Rattle.core_terms.specs.Answers.{Gives}
use Rattle.leaf_terms.specs.PlanMeanings.{plan_of}
use Rattle.function_session.proofs.function_lines.entering.drafts_of.Goals as goal

pub returns : goal.returns
returns c =
    let h = c.requires in
    transport (Gives (map draft_of) c.translate.result)
    (c.function_entries_made.ensures c.args.sig.now h.0 (plan_of c.args.plan.now) h.1.plan_for) c.translate.ensures
