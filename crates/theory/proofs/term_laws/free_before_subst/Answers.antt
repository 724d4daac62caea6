use Rattle.theory.proofs.FreeVariables.{free_before_subst}
use Rattle.theory.proofs.term_laws.free_before_subst.Goals as goal

pub returns : goal.returns
returns c = free_before_subst
