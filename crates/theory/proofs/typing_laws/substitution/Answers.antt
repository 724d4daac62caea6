use Rattle.theory.proofs.Substituting.{substitution}
use Rattle.theory.proofs.typing_laws.substitution.Goals as goal

pub returns : goal.returns
returns c = substitution
