use Rattle.theory.proofs.Congruence.{converts_functions}
use Rattle.theory.proofs.conversion_laws.converts_functions.Goals as goal

pub returns : goal.returns
returns c = converts_functions
