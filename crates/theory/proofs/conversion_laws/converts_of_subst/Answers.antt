use Rattle.theory.proofs.Congruence.{converts_of_subst}
use Rattle.theory.proofs.conversion_laws.converts_of_subst.Goals as goal

pub returns : goal.returns
returns c = converts_of_subst
