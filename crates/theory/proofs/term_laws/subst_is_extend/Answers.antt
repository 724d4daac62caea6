use Rattle.theory.proofs.Shifts.{subst-is_extend}
use Rattle.theory.proofs.term_laws.subst_is_extend.Goals as goal

pub returns : goal.returns
returns c = subst-is_extend
