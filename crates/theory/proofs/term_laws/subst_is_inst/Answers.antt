use Rattle.theory.proofs.Shifts.{subst-is_inst}
use Rattle.theory.proofs.term_laws.subst_is_inst.Goals as goal

pub returns : goal.returns
returns c = subst-is_inst
