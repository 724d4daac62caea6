use Rattle.elim.proofs.headline.program_laws.Outputs.{has_output}
use Rattle.elim.proofs.headline.program_laws.has_output.Goals as goal

pub returns : goal.returns
returns c = has_output
