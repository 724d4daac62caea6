use Rattle.elim.proofs.elim_program.OutputInLine.{verified_is_ready}
use Rattle.elim.proofs.elim_program.laws.verified_is_ready.Goals as goal

pub returns : goal.returns
returns c = verified_is_ready
