use Rattle.theory.proofs.Heights.{height-subst}
use Rattle.theory.proofs.term_laws.height_of_subst.Goals as goal

pub returns : goal.returns
returns c = height-subst
