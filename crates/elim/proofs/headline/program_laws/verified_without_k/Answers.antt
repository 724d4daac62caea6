use Rattle.elim.proofs.headline.program_laws.LinesWithoutK.{verified_without_k}
use Rattle.elim.proofs.headline.program_laws.verified_without_k.Goals as goal

pub returns : goal.returns
returns c = verified_without_k
