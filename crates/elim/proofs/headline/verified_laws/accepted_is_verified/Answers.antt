use Rattle.elim.proofs.headline.verified_laws.CoreFiles.{accepted-verified}
use Rattle.elim.proofs.headline.verified_laws.accepted_is_verified.Goals as goal

pub returns : goal.returns
returns c = accepted-verified
