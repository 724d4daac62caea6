use Rattle.theory.proofs.Weakening.{weakening_of_contexts}
use Rattle.theory.proofs.typing_laws.weakening_of_contexts.Goals as goal

pub returns : goal.returns
returns c = weakening_of_contexts
