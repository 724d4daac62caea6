use Rattle.theory.proofs.HeightInstances.{height-ren}
use Rattle.theory.proofs.instance_laws.height_of_ren.Goals as goal

pub returns : goal.returns
returns c = height-ren
