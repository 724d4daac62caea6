use Rattle.theory.proofs.SortInstances.{sorts_of_inst}
use Rattle.theory.proofs.instance_laws.sorts_of_inst.Goals as goal

pub returns : goal.returns
returns c = sorts_of_inst
