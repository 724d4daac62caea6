use Rattle.theory.proofs.Congruence.{converts_applications}
use Rattle.theory.proofs.conversion_laws.converts_applications.Goals as goal

pub returns : goal.returns
returns c = converts_applications
