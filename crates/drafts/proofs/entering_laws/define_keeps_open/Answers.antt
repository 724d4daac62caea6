use Rattle.drafts.proofs.entering_laws.OpenSteps.{define-opens}
use Rattle.drafts.proofs.entering_laws.define_keeps_open.Goals as goal

pub returns : goal.returns
returns c = define-opens
