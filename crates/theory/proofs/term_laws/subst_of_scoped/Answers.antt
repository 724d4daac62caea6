use Rattle.theory.proofs.FreeVariables.{subst_of_scoped}
use Rattle.theory.proofs.term_laws.subst_of_scoped.Goals as goal

pub returns : goal.returns
returns c = subst_of_scoped
