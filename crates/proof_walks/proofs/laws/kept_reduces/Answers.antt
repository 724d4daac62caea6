use Rattle.proof_walks.proofs.KeptPlaces.{kept-reduces}
use Rattle.proof_walks.proofs.laws.kept_reduces.Goals as goal

pub returns : goal.returns
returns c = kept-reduces
