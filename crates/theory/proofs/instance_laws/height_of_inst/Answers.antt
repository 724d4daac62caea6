use Rattle.theory.proofs.HeightInstances.{height-inst}
use Rattle.theory.proofs.instance_laws.height_of_inst.Goals as goal

pub returns : goal.returns
returns c = height-inst
