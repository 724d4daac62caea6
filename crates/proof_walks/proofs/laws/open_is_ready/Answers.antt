use Rattle.proof_walks.proofs.KeptPlaces.{open-ready}
use Rattle.proof_walks.proofs.laws.open_is_ready.Goals as goal

pub returns : goal.returns
returns c = open-ready
