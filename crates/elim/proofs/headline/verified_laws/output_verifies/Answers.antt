use Rattle.elim.proofs.headline.verified_laws.CoreFiles.{output-verifies}
use Rattle.elim.proofs.headline.verified_laws.output_verifies.Goals as goal

pub returns : goal.returns
returns c = output-verifies
