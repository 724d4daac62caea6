use Rattle.theory.proofs.Scoping.{context_of}
use Rattle.theory.proofs.typing_laws.context_of_derivation.Goals as goal

pub returns : goal.returns
returns c = λ S G t a d. context_of d
