use Rattle.theory.proofs.Congruence.{below_of_lift}
use Rattle.theory.proofs.conversion_laws.below_of_lift.Goals as goal

pub returns : goal.returns
returns c = below_of_lift
