use Rattle.drafts.proofs.entering_laws.OpenSignatures.{family-keeps}
use Rattle.drafts.proofs.entering_laws.family_keeps_open.Goals as goal

pub returns : goal.returns
returns c = family-keeps
