use Rattle.theory.proofs.Congruence.{below_of_subst}
use Rattle.theory.proofs.conversion_laws.below_of_subst.Goals as goal

pub returns : goal.returns
returns c = below_of_subst
