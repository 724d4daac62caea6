use Rattle.elim.proofs.elim_program.OneOutput.{one_output}
use Rattle.elim.proofs.elim_program.laws.has_one_output.Goals as goal

pub returns : goal.returns
returns c = one_output
