use Rattle.elim.proofs.headline.program_laws.LinesWithoutK.{without_k}
use Rattle.elim.proofs.headline.program_laws.without_k.Goals as goal

pub returns : goal.returns
returns c = without_k
