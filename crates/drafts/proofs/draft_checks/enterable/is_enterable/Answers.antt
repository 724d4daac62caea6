use Rattle.std.proofs.Common.{sym, ◌∙◌}
use Rattle.core_sig.specs.Drafts.{draft_of}
use Rattle.drafts.proofs.draft_checks.EnterableDrafts.{tested-tells}
use Rattle.drafts.proofs.draft_checks.enterable.is_enterable.Goals as goal

pub returns-then-is_draft_entry-clause-tells : goal.returns-then-is_draft_entry-clause-tells
returns-then-is_draft_entry-clause-tells c =
    tested-tells c.args.sig.now (draft_of c.args.draft.now) c.as_slice-names.result.now c.as_slice-names.ensures
    (sym c.is_draft_entry.ensures ∙ c.if-is_draft_entry.true) c.names_enter.result c.names_enter.ensures
