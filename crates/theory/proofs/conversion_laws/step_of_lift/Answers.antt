use Rattle.theory.proofs.Congruence.{step_of_lift}
use Rattle.theory.proofs.conversion_laws.step_of_lift.Goals as goal

pub returns : goal.returns
returns c = step_of_lift
