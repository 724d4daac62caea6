use Rattle.theory.proofs.FreeVariables.{free_of-subst}
use Rattle.theory.proofs.term_laws.free_of_subst.Goals as goal

pub returns : goal.returns
returns c = free_of-subst
