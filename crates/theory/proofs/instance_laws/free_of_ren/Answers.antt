use Rattle.theory.proofs.FreeInstances.{free_of-ren}
use Rattle.theory.proofs.instance_laws.free_of_ren.Goals as goal

pub returns : goal.returns
returns c = free_of-ren
