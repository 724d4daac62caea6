use Rattle.drafts.proofs.entering_laws.OpenSteps.{declare-opens}
use Rattle.drafts.proofs.entering_laws.declare_keeps_open.Goals as goal

pub returns : goal.returns
returns c = declare-opens
