use Rattle.theory.proofs.Weakening.{weakening}
use Rattle.theory.proofs.typing_laws.weakening.Goals as goal

pub returns : goal.returns
returns c = weakening
