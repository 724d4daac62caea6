use Rattle.elim.proofs.elim_program.Entries.{bound_is_enough}
use Rattle.elim.proofs.elim_program.laws.bound_is_enough.Goals as goal

pub returns : goal.returns
returns c = bound_is_enough
