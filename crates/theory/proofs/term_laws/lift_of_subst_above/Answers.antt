use Rattle.theory.proofs.Commuting.{lift_of_subst_above}
use Rattle.theory.proofs.term_laws.lift_of_subst_above.Goals as goal

pub returns : goal.returns
returns c = lift_of_subst_above
