use Rattle.theory.proofs.Scoping.{term_scoped}
use Rattle.theory.proofs.typing_laws.term_scoped.Goals as goal

pub returns : goal.returns
returns c = λ S G t a d. term_scoped d
