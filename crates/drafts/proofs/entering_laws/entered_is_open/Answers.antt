use Rattle.drafts.proofs.entering_laws.EnteredOpen.{entered-open}
use Rattle.drafts.proofs.entering_laws.entered_is_open.Goals as goal

pub returns : goal.returns
returns c = entered-open
