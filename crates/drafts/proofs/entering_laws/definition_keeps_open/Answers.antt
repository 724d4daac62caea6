use Rattle.drafts.proofs.entering_laws.OpenSignatures.{definition-keeps}
use Rattle.drafts.proofs.entering_laws.definition_keeps_open.Goals as goal

pub returns : goal.returns
returns c = definition-keeps
