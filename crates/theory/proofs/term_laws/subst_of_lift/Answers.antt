use Rattle.theory.proofs.Commuting.{subst_of_lift}
use Rattle.theory.proofs.term_laws.subst_of_lift.Goals as goal

pub returns : goal.returns
returns c = subst_of_lift
