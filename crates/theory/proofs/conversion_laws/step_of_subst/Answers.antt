use Rattle.theory.proofs.Congruence.{step_of_subst}
use Rattle.theory.proofs.conversion_laws.step_of_subst.Goals as goal

pub returns : goal.returns
returns c = step_of_subst
