use Rattle.theory.proofs.Scoping.{type_scoped}
use Rattle.theory.proofs.typing_laws.type_scoped.Goals as goal

pub returns : goal.returns
returns c = λ S G t a typed d. type_scoped typed d
