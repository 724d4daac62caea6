use Rattle.drafts.proofs.entering_laws.OpenSignatures.{names-stay}
use Rattle.drafts.proofs.entering_laws.names_stay_unmarked.Goals as goal

pub returns : goal.returns
returns c = names-stay
