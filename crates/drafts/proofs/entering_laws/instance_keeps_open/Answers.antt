use Rattle.drafts.proofs.entering_laws.OpenSteps.{instance-opens}
use Rattle.drafts.proofs.entering_laws.instance_keeps_open.Goals as goal

pub returns : goal.returns
returns c = instance-opens
