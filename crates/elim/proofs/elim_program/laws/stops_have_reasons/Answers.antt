use Rattle.elim.proofs.program_texts.StopReasons.{stops-have-reasons}
use Rattle.elim.proofs.elim_program.laws.stops_have_reasons.Goals as goal

pub returns : goal.returns
returns c = stops-have-reasons
