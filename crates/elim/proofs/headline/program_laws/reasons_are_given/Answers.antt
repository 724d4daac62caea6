use Rattle.elim.proofs.headline.program_laws.Reasons.{reasons-given}
use Rattle.elim.proofs.headline.program_laws.reasons_are_given.Goals as goal

pub returns : goal.returns
returns c = reasons-given
