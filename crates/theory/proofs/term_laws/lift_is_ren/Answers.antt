use Rattle.theory.proofs.Shifts.{lift-is_ren}
use Rattle.theory.proofs.term_laws.lift_is_ren.Goals as goal

pub returns : goal.returns
returns c = lift-is_ren
