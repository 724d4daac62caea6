use Rattle.theory.proofs.FreeVariables.{free_of-lift}
use Rattle.theory.proofs.term_laws.free_of_lift.Goals as goal

pub returns : goal.returns
returns c = free_of-lift
