use Rattle.theory.proofs.Commuting.{subst_cancels}
use Rattle.theory.proofs.term_laws.subst_cancels.Goals as goal

pub returns : goal.returns
returns c = subst_cancels
