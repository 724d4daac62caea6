use Rattle.family_check.proofs.Soundness.{instance-keeps}
use Rattle.family_check.proofs.laws.instance_keeps_well_formed.Goals as goal

pub returns : goal.returns
returns c = instance-keeps
