use Rattle.theory.proofs.Shifts.{lift-one}
use Rattle.theory.proofs.term_laws.lift_is_weaken.Goals as goal

pub returns : goal.returns
returns c = lift-one
