use Rattle.std.proofs.Common.{map, sym, subst as transport}
use Rattle.core_sig.specs.Drafts.{draft_of}
use Rattle.leaf_terms.specs.PlanMeanings.{plan_of}
use Rattle.tree_translation.specs.Entries.{translate}
use Rattle.function_session.specs.function_lines.Conditions.{EnterInTurn}
use Rattle.function_session.proofs.plan_laws.Answering.{if-ok}
use Rattle.function_session.proofs.function_lines.entering.enter_translated.Goals as goal

pub enter_all-requires-clause-drafts : goal.enter_all-requires-clause-drafts
enter_all-requires-clause-drafts c =
    let S = c.args.sig.now in
    transport (λ ds. EnterInTurn S (map draft_of ds)) (sym c.as_slice.ensures)
    (if-ok (EnterInTurn S) (translate S (plan_of c.args.plan.now)) (map draft_of c.in_ok-drafts.drafts) (sym c.in_ok-drafts.ensures) c.requires.drafts)
