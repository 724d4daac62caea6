use Rattle.theory.proofs.Congruence.{converts_of_lift}
use Rattle.theory.proofs.conversion_laws.converts_of_lift.Goals as goal

pub returns : goal.returns
returns c = converts_of_lift
