use Rattle.theory.proofs.FreeInstances.{free_of-inst}
use Rattle.theory.proofs.instance_laws.free_of_inst.Goals as goal

pub returns : goal.returns
returns c = free_of-inst
