use Rattle.theory.proofs.Congruence.{converts_lets}
use Rattle.theory.proofs.conversion_laws.converts_lets.Goals as goal

pub returns : goal.returns
returns c = converts_lets
