use Rattle.theory.proofs.Commuting.{subst-subst}
use Rattle.theory.proofs.term_laws.subst_subst.Goals as goal

pub returns : goal.returns
returns c = subst-subst
