use Rattle.theory.proofs.Commuting.{lift-lift}
use Rattle.theory.proofs.term_laws.lift_lift.Goals as goal

pub returns : goal.returns
returns c = lift-lift
