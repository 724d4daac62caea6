use Rattle.theory.proofs.Commuting.{lift_of_subst}
use Rattle.theory.proofs.term_laws.lift_of_subst.Goals as goal

pub returns : goal.returns
returns c = lift_of_subst
