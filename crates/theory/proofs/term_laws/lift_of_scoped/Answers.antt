use Rattle.theory.proofs.FreeVariables.{lift_of_scoped}
use Rattle.theory.proofs.term_laws.lift_of_scoped.Goals as goal

pub returns : goal.returns
returns c = lift_of_scoped
