use Rattle.elim.proofs.headline.program_laws.LastLines.{status_follows}
use Rattle.elim.proofs.headline.program_laws.status_follows.Goals as goal

pub returns : goal.returns
returns c = status_follows
