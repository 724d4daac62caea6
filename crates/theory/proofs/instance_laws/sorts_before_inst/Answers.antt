use Rattle.theory.proofs.SortInstances.{sorts_before_inst}
use Rattle.theory.proofs.instance_laws.sorts_before_inst.Goals as goal

pub returns : goal.returns
returns c = sorts_before_inst
