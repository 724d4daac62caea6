use Rattle.theory.proofs.Generation.{parts}
use Rattle.theory.proofs.typing_laws.generation.Goals as goal

pub returns : goal.returns
returns c = λ S G t a d. parts d
