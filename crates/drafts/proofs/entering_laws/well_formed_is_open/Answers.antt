use Rattle.drafts.proofs.entering_laws.OpenSignatures.{well_formed-open}
use Rattle.drafts.proofs.entering_laws.well_formed_is_open.Goals as goal

pub returns : goal.returns
returns c = well_formed-open
