use Rattle.theory.proofs.Heights.{height-lift}
use Rattle.theory.proofs.term_laws.height_of_lift.Goals as goal

pub returns : goal.returns
returns c = height-lift
