use Rattle.elim.proofs.elim_program.OutputInLine.{acceptance}
use Rattle.elim.proofs.elim_program.laws.acceptance.Goals as goal

pub returns : goal.returns
returns c = acceptance
