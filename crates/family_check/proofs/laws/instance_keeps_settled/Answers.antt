use Rattle.family_check.proofs.ScopedEntering.{instance-settles}
use Rattle.family_check.proofs.laws.instance_keeps_settled.Goals as goal

pub returns : goal.returns
returns c = instance-settles
