use Rattle.theory.proofs.Congruence.{converts_symmetric}
use Rattle.theory.proofs.conversion_laws.converts_symmetric.Goals as goal

pub returns : goal.returns
returns c = converts_symmetric
