use Rattle.theory.proofs.Congruence.{converts_transitive}
use Rattle.theory.proofs.conversion_laws.converts_transitive.Goals as goal

pub returns : goal.returns
returns c = converts_transitive
