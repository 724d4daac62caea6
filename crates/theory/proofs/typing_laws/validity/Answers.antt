use Rattle.theory.proofs.Validity.{valid}
use Rattle.theory.proofs.typing_laws.validity.Goals as goal

pub returns : goal.returns
returns c = λ S G t a typed d. valid typed d
